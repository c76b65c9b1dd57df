use Rattle.uug_conversation.proofs.SaidByteLemmas.{own_bytes}
use Rattle.uug_conversation.proofs.conversation_laws.messages_are_bytes.Goals as goal

pub returns : goal.returns
returns c = own_bytes
