use Rattle.uug_conversation.proofs.AlternationLemmas.{caller_begins, take_turns}
use Rattle.uug_conversation.proofs.conversation_laws.speakers_alternate.Goals as goal

pub returns-clause-first : goal.returns-clause-first
returns-clause-first c = caller_begins

pub returns-clause-then : goal.returns-clause-then
returns-clause-then c = take_turns
