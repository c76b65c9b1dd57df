use Rattle.std.proofs.Common.{◌≡◌, drop}
use Rattle.uug_store.specs.Queueing.{sends_any}
use Rattle.uug_store.proofs.queued.sends_any.Given as goal

-- none of the jobs before sends a file
abbrev pub invariant-loop-job : goal.invariant-loop-job
invariant-loop-job l = sends_any (drop l.job-index l.jobs) ≡ sends_any l.jobs
