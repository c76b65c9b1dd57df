use Rattle.std.proofs.Common.{◌≡◌, ◌≤◌, ◌+◌, ◌++◌, length}
use Rattle.uug_talk.specs.Lines.{lines}
use Rattle.uug_taylor_queue.specs.OpenLines.{file_lines}
use Rattle.uug_taylor_queue.proofs.command_file.add_file.Given as goal

-- what was appended, and what is open of the lines that are still to be read, is all that is open
abbrev pub invariant-loop-line : goal.invariant-loop-line
invariant-loop-line g l = record {
  open_so : l.lines.items ++ file_lines l.there l.file l.number (lines l.rest) ≡ l.fn.lines.items ++ file_lines l.there l.file 0 (lines l.fn.text);
  fits : l.number + length l.rest ≤ length l.fn.text;
}

abbrev pub decreases-loop-line : goal.decreases-loop-line
decreases-loop-line g l = length l.rest
