use Rattle.std.proofs.Common.{◌≡◌, ◌++◌, drop, string_bytes}
use Rattle.uug_observe.specs.JobRemarks.{put_off_lines}
use Rattle.uug_observe.proofs.job_remark.add_put_off.Given as goal

-- with the jobs that are left, a line for each is appended
abbrev pub invariant-loop-job : goal.invariant-loop-job
invariant-loop-job g l =
    string_bytes l.text ++ put_off_lines l.tells_digests (drop l.job-index l.jobs)
    ≡ string_bytes l.fn.text ++ put_off_lines l.tells_digests l.jobs
