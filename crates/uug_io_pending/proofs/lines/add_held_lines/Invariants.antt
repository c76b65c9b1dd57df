use Rattle.std.proofs.Common.{◌≡◌, ◌++◌, drop, string_bytes}
use Rattle.uug_io_pending.specs.StatusText.{held_lines}
use Rattle.uug_io_pending.proofs.lines.add_held_lines.Given as goal

abbrev pub invariant-loop-file : goal.invariant-loop-file
invariant-loop-file g l = string_bytes l.text ++ held_lines (drop l.file-index l.held) ≡ string_bytes l.fn.text ++ held_lines l.held
