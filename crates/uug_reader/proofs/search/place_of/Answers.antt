use Rattle.std.proofs.Common.{◌≡◌, take, sym, ap, subst, ◌∙◌}
use Rattle.uug_packet.specs.Number.{number_of}
use Rattle.uug_packet.specs.Packet.{PacketValue, carry, shown}
use Rattle.uug_packet.specs.Spelling.{IsSpelling}
use Rattle.uug_reader.specs.Cut.{found}
use Rattle.uug_reader.proofs.PlaceLemmas.{lies_in_front}
use Rattle.uug_reader.proofs.search.place_of.Goals as goal

pub returns-in-Carry-clause-item : goal.returns-in-Carry-clause-item
returns-in-Carry-clause-item c =
    let value : PacketValue = carry (number_of c.in-Carry.seq) (number_of c.in-Carry.ack) c.in-Carry.k c.in-Carry.message.now in
    let is : shown c.args.packet.now ≡ value = ap shown c.in-Carry.is in
    let spelled : IsSpelling value (take c.args.size c.args.bytes.now) = subst (λ p. IsSpelling p (take c.args.size c.args.bytes.now)) is c.requires.spelled in
    let lies = c.message_start-start.ensures.lies _ _ _ c.in-Carry.message.now spelled in
    let same = lies_in_front c.in-Carry.message.now c.args.bytes.now c.message_start-start.result c.args.size lies in
    ap (λ m. found (carry (number_of c.in-Carry.seq) (number_of c.in-Carry.ack) c.in-Carry.k m)) same ∙ ap found (sym is)
