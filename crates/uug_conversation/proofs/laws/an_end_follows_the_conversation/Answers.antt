use Rattle.uug_conversation.proofs.FirstLaw.{first_law}
use Rattle.uug_conversation.proofs.OneEndLemmas.{turn_follows}
use Rattle.uug_conversation.proofs.laws.an_end_follows_the_conversation.Goals as goal

pub returns : goal.returns
returns c a b fronts s t me struck failed kept = turn_follows me a b struck failed kept (first_law a b fronts s t me)
