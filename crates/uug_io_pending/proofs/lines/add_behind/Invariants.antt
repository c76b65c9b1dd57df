use Rattle.std.proofs.Common.{◌≡◌, ◌++◌, length, string_bytes}
use Rattle.uug_talk.specs.Lines.{lines}
use Rattle.uug_io_pending.specs.StatusText.{told_lines}
use Rattle.uug_io_pending.proofs.lines.add_behind.Given as goal

abbrev pub invariant-loop-line : goal.invariant-loop-line
invariant-loop-line g l = string_bytes l.text ++ told_lines l.process (lines l.rest) ≡ string_bytes l.fn.text ++ told_lines l.process (lines l.log)

abbrev pub decreases-loop-line : goal.decreases-loop-line
decreases-loop-line g l = length l.rest
