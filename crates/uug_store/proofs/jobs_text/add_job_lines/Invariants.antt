use Rattle.std.proofs.Common.{◌≡◌, ◌++◌, drop, string_bytes}
use Rattle.uug_store.specs.JobsText.{jobs_text}
use Rattle.uug_store.proofs.jobs_text.add_job_lines.Given as goal

abbrev pub invariant-loop-job : goal.invariant-loop-job
invariant-loop-job g l = string_bytes l.text ++ jobs_text (drop l.job-index l.jobs) ≡ string_bytes l.fn.text ++ jobs_text l.jobs
