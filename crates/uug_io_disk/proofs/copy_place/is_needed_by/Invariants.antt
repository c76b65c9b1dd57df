use Rattle.std.proofs.Common.{◌≡◌, drop}
use Rattle.uug_io_disk.specs.Copies.{is_needed_by}
use Rattle.uug_io_disk.proofs.copy_place.is_needed_by.Given as goal

-- none of the jobs before needs it
abbrev pub invariant-loop-job : goal.invariant-loop-job
invariant-loop-job l = is_needed_by l.name (drop l.job-index l.jobs) ≡ is_needed_by l.name l.jobs
