use Rattle.uug_session.proofs.NodeLemmas.{shows_bad, shows_packet_at}
use Rattle.uug_session.proofs.node.Node.showing.Goals as goal

pub returns-in-Packet : goal.returns-in-Packet
returns-in-Packet g c =
    shows_packet_at c.args.self.now.engine.stage c.args.self.now.texts c.args.self.now.packets c.in_ok-packet-in-Linked.field-0
    c.in-Packet.packet c.in-Linked.ensures c.in-Packet.is c.in_ok-packet-in-Linked.ensures

pub returns-in-Bad : goal.returns-in-Bad
returns-in-Bad g c =
    shows_bad c.args.self.now.engine.stage c.args.self.now.texts c.args.self.now.packets c.in_ok-packet-in-Linked.field-0
    c.in-Linked.ensures c.in-Bad.is c.in_ok-packet-in-Linked.ensures
