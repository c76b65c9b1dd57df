use Rattle.std.proofs.Common.{◌≡◌, drop}
use Rattle.uug_line.specs.Shown.{lists_in}
use Rattle.uug_sim_ladder.specs.Acts.{without}
use Rattle.uug_sim_ladder.proofs.acts.without.Given as goal

abbrev pub invariant-loop-packet : goal.invariant-loop-packet
invariant-loop-packet g l = without (lists_in (drop l.packet-index l.packets)) l.rest ≡ without (lists_in l.packets) l.bytes
