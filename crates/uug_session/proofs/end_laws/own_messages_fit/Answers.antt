use Rattle.uug_conversation.proofs.FitLemmas.{own_fit}
use Rattle.uug_session.proofs.end_laws.own_messages_fit.Goals as goal

pub returns : goal.returns
returns c = own_fit
