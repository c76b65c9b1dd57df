use Rattle.std.proofs.Common.{◌≡◌, drop}
use Rattle.uug_store.specs.Queueing.{is_given_by}
use Rattle.uug_store.proofs.queued.is_given_by.Given as goal

-- none of the jobs before gives it
abbrev pub invariant-loop-job : goal.invariant-loop-job
invariant-loop-job l = is_given_by l.name (drop l.job-index l.jobs) ≡ is_given_by l.name l.jobs
