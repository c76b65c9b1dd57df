use Rattle.std.proofs.Common.{◌≡◌, length}
use Rattle.std.specs.List.{list_any}
use Rattle.uug_talk.specs.Lines.{lines}
use Rattle.uug_taylor_queue.specs.Placing.{names_file}
use Rattle.uug_taylor_queue.proofs.marks.names_data.Given as goal

-- the lines that are left decide
abbrev pub invariant-loop-line : goal.invariant-loop-line
invariant-loop-line l = list_any names_file (lines l.rest) ≡ list_any names_file (lines l.fn.text)

abbrev pub decreases-loop-line : goal.decreases-loop-line
decreases-loop-line l = length l.rest
