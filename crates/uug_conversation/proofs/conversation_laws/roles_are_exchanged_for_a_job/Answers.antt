use Rattle.uug_conversation.proofs.OfferLemmas.{answers_to_hang_up}
use Rattle.uug_conversation.proofs.conversation_laws.roles_are_exchanged_for_a_job.Goals as goal

pub returns : goal.returns
returns c = answers_to_hang_up
