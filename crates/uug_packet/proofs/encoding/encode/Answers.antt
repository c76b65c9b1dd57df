use Rattle.std.proofs.Common.{◌≡◌}
use Rattle.uug_packet.specs.Packet.{shown}
use Rattle.uug_packet.specs.Spelling.{canonical}
use Rattle.uug_packet.proofs.EncodeLemmas.{IsSpelling-shown}
use Rattle.uug_packet.proofs.encoding.encode.Goals as goal

pub returns-in-Carry-clause-spelled : goal.returns-in-Carry-clause-spelled
returns-in-Carry-clause-spelled c =
    let written : c.encode_data.new.out.items ≡ canonical (shown c.args.packet.now) = rw c.in-Carry.is c.encode_data.ensures in
    rw written (IsSpelling-shown c.args.packet.now c.requires)
