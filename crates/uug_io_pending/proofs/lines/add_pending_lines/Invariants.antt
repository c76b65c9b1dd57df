use Rattle.std.proofs.Common.{◌≡◌, ◌++◌, drop, string_bytes}
use Rattle.uug_io_pending.specs.StatusText.{pending_lines}
use Rattle.uug_io_pending.proofs.lines.add_pending_lines.Given as goal

abbrev pub invariant-loop-job : goal.invariant-loop-job
invariant-loop-job g l = string_bytes l.text ++ pending_lines (drop l.job-index l.pending) ≡ string_bytes l.fn.text ++ pending_lines l.pending
