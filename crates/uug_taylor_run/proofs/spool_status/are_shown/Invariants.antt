use Rattle.std.proofs.Common.{◌≡◌, length}
use Rattle.uug_taylor_run.specs.Waiting.{are_shown}
use Rattle.uug_talk.specs.Lines.{lines}
use Rattle.uug_taylor_run.proofs.spool_status.are_shown.Given as goal

-- those that are left decide
abbrev pub invariant-loop-line : goal.invariant-loop-line
invariant-loop-line l = are_shown (lines l.rest) ≡ are_shown (lines l.fn.text)

abbrev pub decreases-loop-line : goal.decreases-loop-line
decreases-loop-line l = length l.rest
