use Rattle.std.proofs.Common.{◌≡◌, ◌-◌, ◌<◌, ℕ, suc, length, refl, ap, ◌∙◌, arith}
use Rattle.uug_link.specs.Entries.{start_at}
use Rattle.uug_link.proofs.EntriesLemmas.{start_at-suc}
use Rattle.uug_link.proofs.outbox.start_of.Goals as goal

pub returns-then-i-eq0 : goal.returns-then-i-eq0
returns-then-i-eq0 c = rw c.if-i-eq0.true refl

pub returns-else-i-eq0 : goal.returns-else-i-eq0
returns-else-i-eq0 c =
    let at : suc (c.args.i - 1) ≡ c.args.i = omega arith in
    let low : c.args.i - 1 < length c.args.marks.now = omega arith in
    start_at-suc 0 c.args.marks.now (c.args.i - 1) _ low ∙ ap (λ (n : ℕ). start_at 0 c.args.marks.now n) at
