use Rattle.std.proofs.Common.{◌≡◌, drop}
use Rattle.uug_line.specs.Shown.{lists_in}
use Rattle.uug_sim_ladder.specs.Acts.{end_kept, sends_packets}
use Rattle.uug_sim_ladder.specs.Rungs.{ladder_shown}
use Rattle.uug_sim_ladder.proofs.acts.send_all.Given as goal

-- with the packets that are left, all are sent
abbrev pub invariant-loop-packet : goal.invariant-loop-packet
invariant-loop-packet g l =
    sends_packets l.event l.side (lists_in (drop l.packet-index l.packets)) (record { ladder = ladder_shown l.ladder; end = end_kept l.end })
    ≡ sends_packets l.event l.side (lists_in l.packets) (record { ladder = ladder_shown l.fn.ladder; end = end_kept l.fn.end })
