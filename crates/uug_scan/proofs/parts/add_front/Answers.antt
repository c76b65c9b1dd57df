use Rattle.std.proofs.Common.{subst}
use Rattle.uug_scan.specs.Code.Noise.{IsSized}
use Rattle.uug_scan.proofs.parts.add_front.Goals as goal

pub add_packet_line-requires-clause-size : goal.add_packet_line-requires-clause-size
add_packet_line-requires-clause-size g c = subst IsSized c.in-Packet.is c.requires.sized
