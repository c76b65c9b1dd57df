use Rattle.std.proofs.Common.{arith}
use Rattle.uug_transfer.proofs.WaitingLemmas.{covered_last, covered_three, covered_two}
use Rattle.uug_transfer.proofs.waiting.is_covered.Goals as goal

pub returns-then-count-i-lt2 : goal.returns-then-count-i-lt2
returns-then-count-i-lt2 g c =
    covered_last c.args.outbox.now.entries c.args.i (omega (arith, c.requires, c.len-count.ensures, c.if-count-i-lt2.true))

pub returns-then-count-i-lt3 : goal.returns-then-count-i-lt3
returns-then-count-i-lt3 g c =
    covered_two c.args.outbox.now.entries c.args.i _ _ _ c.entry.ensures c.entry-then-count-i-lt3.ensures
    (omega (arith, c.requires, c.len-count.ensures, c.if-count-i-lt3.true)) c.is_said_by_one.ensures

pub returns : goal.returns
returns g c =
    covered_three c.args.outbox.now.entries c.args.i _ _ _ _ c.entry-2.ensures c.entry-3.ensures c.entry-4.ensures c.is_said_by_two.ensures
