use Rattle.uug_conversation.proofs.EntryLemmas.{each_keeps_well}
use Rattle.uug_conversation.proofs.conversation_laws.entries_are_asked_for.Goals as goal

pub returns : goal.returns
returns c = each_keeps_well
