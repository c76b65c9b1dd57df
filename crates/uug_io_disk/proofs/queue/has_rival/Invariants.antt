use Rattle.std.proofs.Common.{◌≡◌, drop}
use Rattle.uug_io_disk.specs.Queued.{has_rival}
use Rattle.uug_io_disk.proofs.queue.has_rival.Given as goal

-- none of the jobs before is one
abbrev pub invariant-loop-job : goal.invariant-loop-job
invariant-loop-job l = has_rival l.source l.target (drop l.job-index l.jobs) ≡ has_rival l.source l.target l.jobs
