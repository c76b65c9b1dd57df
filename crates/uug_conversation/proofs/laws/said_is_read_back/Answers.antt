use Rattle.uug_conversation.proofs.ReadBackLemmas.{conversation_back}
use Rattle.uug_conversation.proofs.laws.said_is_read_back.Goals as goal

pub returns : goal.returns
returns c = conversation_back
