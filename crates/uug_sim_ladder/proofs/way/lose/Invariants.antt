use Rattle.std.proofs.Common.{◌≡◌, drop}
use Rattle.uug_sim_ladder.specs.Way.{lost}
use Rattle.uug_sim_ladder.proofs.way.lose.Given as goal

abbrev pub invariant-loop-byte : goal.invariant-loop-byte
invariant-loop-byte g l = lost l.event (drop l.byte-index l.bytes) l.fates.items ≡ lost l.event l.bytes l.fn.fates.items
