use Rattle.std.proofs.Common.{length}
use Rattle.uug_session.specs.Node.{held_bytes}
use Rattle.uug_line.specs.LineEndValue.{StillTakes, live_end_value}
use Rattle.uug_line.specs.Shown.{lists_in}
use Rattle.uug_line.proofs.line_end.LineEnd.take_all.Given as goal

-- what is still held is to be taken up
abbrev pub invariant-loop : goal.invariant-loop
invariant-loop g l = StillTakes (lists_in l.others) (live_end_value l.fn.self) (live_end_value l.self)

abbrev pub decreases-loop : goal.decreases-loop
decreases-loop g l = length (held_bytes (live_end_value l.self).node)
