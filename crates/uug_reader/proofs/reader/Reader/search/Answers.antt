use Rattle.std.proofs.Common.{◌↔◌, Bool, IsFalse, subst, sym}
use Rattle.uug_reader.specs.Finding.{FindsNothing}
use Rattle.uug_reader.specs.Reading.{Reading}
use Rattle.uug_reader.proofs.PlaceLemmas.{nothing_found}
use Rattle.uug_reader.proofs.reader.Reader.search.Goals as goal

pub returns-clause-nothing : goal.returns-clause-nothing
returns-clause-nothing g c =
    let first = c.find_first-first in
    let held = c.self.inside.ring.items in
    let found = nothing_found held first.new.ring.items first.new.beside.items first.result first.ensures.passes first.ensures.stands in
    subst (λ (r : Reading). IsFalse c.is_some.result ↔ FindsNothing r.bytes) c.self.view_is
    (subst (λ (b : Bool). IsFalse b ↔ FindsNothing held) (sym c.is_some.ensures) found)
