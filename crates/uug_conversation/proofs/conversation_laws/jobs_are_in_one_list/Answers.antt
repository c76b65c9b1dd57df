use Rattle.uug_conversation.specs.Party.{HasNames}
use Rattle.uug_conversation.proofs.OneEndLemmas.{turn_shares}
use Rattle.uug_conversation.proofs.SharingLemmas.{lists_are_shared, AreShared-All}
use Rattle.uug_conversation.proofs.conversation_laws.jobs_are_in_one_list.Goals as goal

pub returns-clause-always : goal.returns-clause-always
returns-clause-always c = turn_shares

pub returns-clause-told : goal.returns-clause-told
returns-clause-told c = lists_are_shared

pub returns-clause-names : goal.returns-clause-names
returns-clause-names c = λ jobs pending struck failed h n. AreShared-All HasNames h n
