use Rattle.std.proofs.Common.{◌≡◌, ◌++◌, length}
use Rattle.uug_talk.specs.Lines.{lines as lines_of_text}
use Rattle.uug_taylor_queue.specs.Rewriting.{packed}
use Rattle.uug_taylor_queue.proofs.command_text.packed.Given as goal

-- what was appended, and the lines that are still to be read, are all
abbrev pub invariant-loop-line : goal.invariant-loop-line
invariant-loop-line g l = l.lines.items ++ packed (lines_of_text l.rest) ≡ packed (lines_of_text l.fn.text)

abbrev pub decreases-loop-line : goal.decreases-loop-line
decreases-loop-line g l = length l.rest
