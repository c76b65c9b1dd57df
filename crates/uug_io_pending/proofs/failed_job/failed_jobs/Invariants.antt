use Rattle.std.proofs.Common.{◌≡◌, ◌++◌, length, map}
use Rattle.uug_talk.specs.Lines.{lines}
use Rattle.uug_io_pending.specs.Failed.{failed_from, failed_in, shown_failed}
use Rattle.uug_io_pending.proofs.failed_job.failed_jobs.Given as goal

-- with those of the lines that are left, they are all
abbrev pub invariant-loop-line : goal.invariant-loop-line
invariant-loop-line g l = map shown_failed l.failed.items ++ failed_from l.why (lines l.rest) ≡ failed_in l.fn.text

abbrev pub decreases-loop-line : goal.decreases-loop-line
decreases-loop-line g l = length l.rest
