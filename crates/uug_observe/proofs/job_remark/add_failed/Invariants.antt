use Rattle.std.proofs.Common.{◌≡◌, ◌++◌, drop, string_bytes}
use Rattle.uug_observe.specs.JobRemarks.{failed_remark}
use Rattle.uug_observe.proofs.job_remark.add_failed.Given as goal

-- with the jobs that are left, a line for each is appended
abbrev pub invariant-loop-job : goal.invariant-loop-job
invariant-loop-job g l =
    string_bytes l.text ++ failed_remark l.dir l.large (g.S.Spool.holdings l.spool) (drop l.job-index l.jobs)
    ≡ string_bytes l.fn.text ++ failed_remark l.dir l.large (g.S.Spool.holdings l.spool) l.jobs
