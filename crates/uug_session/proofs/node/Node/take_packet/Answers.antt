use Rattle.std.proofs.Common.{drop}
use Rattle.uug_packet.specs.Packet.{shown}
use Rattle.uug_session.specs.Engine.{CountsFaults, faults_max}
use Rattle.uug_session.specs.Node.{NodeState, node_of, packet_item}
use Rattle.uug_session.proofs.NodeLemmas.{reading_is, shows_packet, takes_packet}
use Rattle.uug_session.proofs.node.Node.take_packet.Goals as goal

pub returns-in_ok-took-in-Some-Packet : goal.returns-in_ok-took-in-Some-Packet
returns-in_ok-took-in-Some-Packet g c =
    let n = c.args.self.now in
    let before = node_of n in
    let p = c.in-Some-Packet.packet in
    let after : NodeState = record { engine = c.on_packet.new.self; texts = n.texts; packets = c.drop_found.new.self } in
    let t =
    takes_packet (g.S.Spool.holdings n.spool) (g.S.Spool.kept n.spool) (g.S.Spool.kept c.on_packet.new.spool)
    (CountsFaults faults_max (g.S.Spool.faults n.spool) (g.S.Spool.faults c.on_packet.new.spool))
    (shown p) before after c.in_ok-took-in-Some-Packet.took
    c.requires.linked (shows_packet n.packets n.texts c.in-Some-Packet.field-0 p c.in-Some-Packet.field-0-is c.in-Some-Packet.ensures)
    c.in_ok-took-in-Some-Packet.ensures.ok
    (reading_is c.drop_found.new.self (drop n.packets.shown_size n.packets.bytes) 0 c.drop_found.ensures.bytes c.drop_found.ensures.shown) in
    record {
      ok = (packet_item (shown p), t.0, t.1);
      says = c.in_ok-took-in-Some-Packet.ensures.says;
      err = tt;
      faults = tt;
      holdings = c.on_packet.ensures.holdings;
      count = c.on_packet.ensures.count;
    }
