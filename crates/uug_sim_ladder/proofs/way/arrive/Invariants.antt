use Rattle.std.proofs.Common.{◌≡◌, drop}
use Rattle.uug_sim_ladder.specs.Way.{arrived}
use Rattle.uug_sim_ladder.proofs.way.arrive.Given as goal

abbrev pub invariant-loop-byte : goal.invariant-loop-byte
invariant-loop-byte g l = arrived l.event (drop l.byte-index l.bytes) l.fates.items ≡ arrived l.event l.bytes l.fn.fates.items
