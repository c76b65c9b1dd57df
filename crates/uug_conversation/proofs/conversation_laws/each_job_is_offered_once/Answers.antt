use Rattle.uug_conversation.proofs.OfferLemmas.{caller_commands, called_commands, choice_is_first}
use Rattle.uug_conversation.proofs.conversation_laws.each_job_is_offered_once.Goals as goal

pub returns-clause-caller : goal.returns-clause-caller
returns-clause-caller c = caller_commands

pub returns-clause-called : goal.returns-clause-called
returns-clause-called c = called_commands

pub returns-clause-next : goal.returns-clause-next
returns-clause-next c = choice_is_first
