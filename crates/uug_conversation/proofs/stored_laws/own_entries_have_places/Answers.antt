use Rattle.uug_conversation.proofs.OwnEntryLemmas.{by_places}
use Rattle.uug_conversation.proofs.stored_laws.own_entries_have_places.Goals as goal

pub returns : goal.returns
returns c = by_places
