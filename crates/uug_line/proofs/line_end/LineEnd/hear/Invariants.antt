use Rattle.std.proofs.Common.{length}
use Rattle.uug_line.specs.LineEndValue.{StillHears, live_end_value}
use Rattle.uug_line.specs.Shown.{lists_in}
use Rattle.uug_line.proofs.line_end.LineEnd.hear.Given as goal

-- the rest of the piece is still to come
abbrev pub invariant-loop-self : goal.invariant-loop-self
invariant-loop-self g l = StillHears (lists_in l.others) l.piece l.rest (live_end_value l.fn.self) (live_end_value l.self)

abbrev pub decreases-loop-self : goal.decreases-loop-self
decreases-loop-self g l = length l.rest
