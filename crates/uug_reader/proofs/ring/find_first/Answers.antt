use Rattle.std.proofs.Common.{ap, ℕ, subst, sym, ◌∙◌}
use Rattle.circular_buffer.specs.Buffer.{Buffer}
use Rattle.uug_reader.specs.Finding.{PassesNoise}
use Rattle.uug_reader.specs.Code.Place.{left, StandsBeside}
use Rattle.uug_reader.proofs.PlaceLemmas.{found_exactly, shown_exactly, shown_stands}
use Rattle.uug_reader.proofs.ScanLemmas.{Finds-none}
use Rattle.uug_reader.proofs.ring.find_first.Goals as goal

pub returns-then-is_some-clause-exact : goal.returns-then-is_some-clause-exact
returns-then-is_some-clause-exact g c =
    shown_exactly c.args.ring.now.items c.args.beside.now.items c.args.shown c.are_bytes.ensures
    (sym c.is_some.ensures ∙ c.if-is_some.true) c.requires.shown

pub returns-clause-exact : goal.returns-clause-exact
returns-clause-exact g c =
    let search = c.search_ring-search in
    found_exactly c.args.ring.now.items search.new.beside.items search.result.passed
    search.result.first c.are_bytes.ensures search.ensures.passes search.ensures.stands
    ∙ ap (λ (b : Buffer ℕ). left 0 search.result.first b.items) (sym c.drop_front.ensures)

pub returns-then-is_some-clause-passes : goal.returns-then-is_some-clause-passes
returns-then-is_some-clause-passes g c = Finds-none c.args.ring.now.items

pub returns-then-is_some-clause-stands : goal.returns-then-is_some-clause-stands
returns-then-is_some-clause-stands g c =
    shown_stands c.args.shown c.args.beside.now.items c.args.ring.now.items (sym c.is_some.ensures ∙ c.if-is_some.true)
    c.requires.shown

pub returns-clause-passes : goal.returns-clause-passes
returns-clause-passes g c =
    subst (λ (b : Buffer ℕ). PassesNoise c.args.ring.now.items b.items) (sym c.drop_front.ensures) c.search_ring-search.ensures.passes

pub returns-clause-stands : goal.returns-clause-stands
returns-clause-stands g c =
    let search = c.search_ring-search in
    subst (λ (b : Buffer ℕ). StandsBeside search.result.first search.new.beside.items b.items) (sym c.drop_front.ensures)
    search.ensures.stands
