use Rattle.std.proofs.Common.{◌≡◌}
use Rattle.uug_sim_script.specs.Remarks.{line_at}
use Rattle.uug_sim_script.proofs.remark.line_at.Given as goal

-- the line stands so many lines behind
abbrev pub invariant-loop-left : goal.invariant-loop-left
invariant-loop-left l = line_at l.fn.number l.fn.script ≡ line_at l.left l.rest

abbrev pub decreases-loop-left : goal.decreases-loop-left
decreases-loop-left l = l.left
