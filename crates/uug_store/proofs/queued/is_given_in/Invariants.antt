use Rattle.std.proofs.Common.{◌≡◌, length}
use Rattle.uug_talk.specs.Lines.{lines}
use Rattle.uug_store.specs.OpenJobs.{jobs_in}
use Rattle.uug_store.specs.Queueing.{is_given_by}
use Rattle.uug_store.proofs.queued.is_given_in.Given as goal

-- none of the lines before gives it
abbrev pub invariant-loop-line : goal.invariant-loop-line
invariant-loop-line l = is_given_by l.name (jobs_in (lines l.rest)) ≡ is_given_by l.name (jobs_in (lines l.fn.text))

abbrev pub decreases-loop-line : goal.decreases-loop-line
decreases-loop-line l = length l.rest
