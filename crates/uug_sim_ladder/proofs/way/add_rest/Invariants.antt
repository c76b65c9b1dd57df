use Rattle.std.proofs.Common.{◌≡◌, ◌++◌, drop}
use Rattle.uug_sim_ladder.specs.Way.{rest_of}
use Rattle.uug_sim_ladder.proofs.way.add_rest.Given as goal

abbrev pub invariant-loop-i : goal.invariant-loop-i
invariant-loop-i g l = l.way.items ++ rest_of l.place (drop l.i l.bytes) ≡ l.fn.way.items ++ rest_of l.place l.bytes
