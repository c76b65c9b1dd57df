use Rattle.std.proofs.Common.{subst}
use Rattle.uug_packet.specs.Bytes.{AreBytes}
use Rattle.uug_reader.proofs.ring.are_bytes.Goals as goal

pub returns : goal.returns
returns g c = subst AreBytes c.as_slices.ensures c.pieces_are_bytes.ensures
