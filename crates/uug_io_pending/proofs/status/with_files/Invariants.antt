use Rattle.std.proofs.Common.{◌≡◌, ◌++◌, drop, map}
use Rattle.uug_io_pending.specs.Status.{job_of}
use Rattle.uug_io_pending.proofs.status.with_files.Given as goal

abbrev pub invariant-loop-job : goal.invariant-loop-job
invariant-loop-job g l = map job_of l.pending.items ++ drop l.job-index l.jobs ≡ l.jobs
