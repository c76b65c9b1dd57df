use Rattle.std.proofs.Common.{◌≡◌, ◌↔◌, IsTrue, subst}
use Rattle.uug_packet.specs.Number.{number_of}
use Rattle.uug_packet.specs.Packet.{carry, shown}
use Rattle.uug_packet.specs.Spelling.{IsWritable, canonical}
use Rattle.uug_packet.proofs.WrittenLemmas.{carry_written, says_written}
use Rattle.uug_packet.proofs.written.is_written.Goals as goal

pub returns-in-Carry : goal.returns-in-Carry
returns-in-Carry c =
    let seq = number_of c.in-Carry.seq in
    let ack = number_of c.in-Carry.ack in
    let k = c.in-Carry.k in
    let message = c.in-Carry.message.now in
    let bytes = c.args.bytes.now in
    let written = c.requires.bytes in
    let writable : IsWritable (carry seq ack k message) = subst (λ p. IsWritable (shown p)) c.in-Carry.is c.requires.packet in
    let it : IsTrue c.says_carry.result ↔ (bytes ≡ canonical (carry seq ack k message)) = (
      λ yes. let says = c.says_carry.ensures.0 yes in
          carry_written written.packet seq ack k message bytes written.well_formed written.is c.in-Carry.seq.below c.in-Carry.ack.below
          (record { code = says.0; numbers = says.1; carried = says.2 }),
      λ is. let says = says_written seq ack k message bytes (c.in-Carry.seq.below, c.in-Carry.ack.below, writable) is in c.says_carry.ensures.1 (says.code, says.numbers, says.carried),
    ) in
    rw c.in-Carry.is it
