use Rattle.uug_conversation.proofs.StoredLemmas.{nothing_struck_at_first, nothing_stored_at_first}
use Rattle.uug_conversation.proofs.stored_laws.nothing_is_struck_at_first.Goals as goal

pub returns-clause-struck : goal.returns-clause-struck
returns-clause-struck c = nothing_struck_at_first

pub returns-clause-stored : goal.returns-clause-stored
returns-clause-stored c = nothing_stored_at_first
