use Rattle.std.proofs.Common.{◌≡◌, ◌≤◌, ◌+◌, ◌++◌, length}
use Rattle.uug_talk.specs.Lines.{lines}
use Rattle.uug_taylor_queue.specs.Rewriting.{left_lines}
use Rattle.uug_taylor_queue.proofs.command_text.left_text.Given as goal

-- what was appended, and what is made of the lines that are still to be read, is all
abbrev pub invariant-loop-line : goal.invariant-loop-line
invariant-loop-line g l = record {
  made : l.after.items ++ left_lines l.file l.gone l.left l.number (lines l.rest) ≡ left_lines l.file l.gone l.left 0 (lines l.fn.text);
  fits : l.number + length l.rest ≤ length l.fn.text;
}

abbrev pub decreases-loop-line : goal.decreases-loop-line
decreases-loop-line g l = length l.rest
