use Rattle.std.proofs.Common.{◌≡◌, ◌++◌, length}
use Rattle.uug_talk.specs.Lines.{lines}
use Rattle.uug_store.specs.JobsAfter.{lines_left}
use Rattle.uug_store.proofs.meanwhile.add_lines_left.Given as goal

-- what was appended, and what is left of the lines that are still to be looked at, is all that is left
abbrev pub invariant-loop-line : goal.invariant-loop-line
invariant-loop-line g l = l.text.items ++ lines_left l.over.items (lines l.rest) ≡ l.fn.text.items ++ lines_left l.fn.over.items (lines l.fn.now)

abbrev pub decreases-loop-line : goal.decreases-loop-line
decreases-loop-line g l = length l.rest
