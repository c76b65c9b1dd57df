use Rattle.uug_conversation.specs.Turns.{other}
use Rattle.uug_conversation.specs.View.{party}
use Rattle.uug_conversation.proofs.FirstLaw.{first_law, left_law}
use Rattle.uug_conversation.proofs.OneEndLemmas.{turn_leaves}
use Rattle.uug_conversation.proofs.laws.what_is_left_is_a_front.Goals as goal

pub returns : goal.returns
returns c a b fronts s t me struck failed kept =
    turn_leaves me a b struck failed kept (first_law a b fronts s t me) (party (other me) a b) (left_law a b fronts s t me)
