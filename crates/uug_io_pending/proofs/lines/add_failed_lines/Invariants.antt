use Rattle.std.proofs.Common.{◌≡◌, ◌++◌, drop, string_bytes}
use Rattle.uug_io_pending.specs.StatusText.{failed_lines}
use Rattle.uug_io_pending.proofs.lines.add_failed_lines.Given as goal

abbrev pub invariant-loop-job : goal.invariant-loop-job
invariant-loop-job g l = string_bytes l.text ++ failed_lines (drop l.job-index l.failed) ≡ string_bytes l.fn.text ++ failed_lines l.failed
