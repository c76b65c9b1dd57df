use Rattle.uug_packet.proofs.WrittenLemmas.{message_in-spelled, message_in-written}
use Rattle.uug_packet.proofs.laws.messages_are_read.Goals as goal

pub returns : goal.returns
returns c = record { spelled = message_in-spelled; written = message_in-written }
