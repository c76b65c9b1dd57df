use Rattle.std.proofs.Common.{◌≡◌, ◌++◌, drop, string_bytes}
use Rattle.uug_store.specs.EndReport.{failed_lines}
use Rattle.uug_store.proofs.report.add_failed_lines.Given as goal

abbrev pub invariant-loop-job : goal.invariant-loop-job
invariant-loop-job g l =
    string_bytes l.text ++ failed_lines l.side (drop l.job-index l.jobs) ≡ string_bytes l.fn.text ++ failed_lines l.side l.jobs
