use Rattle.std.proofs.Common.{subst}
use Rattle.uug_conversation.specs.Left.{IsLeft}
use Rattle.uug_conversation.specs.Turns.{other}
use Rattle.uug_conversation.specs.View.{party}
use Rattle.uug_conversation.proofs.FirstLaw.{left_law}
use Rattle.uug_conversation.proofs.GoingOnLemmas.{goes_on_behind, sizes_at}
use Rattle.uug_conversation.proofs.laws.what_came_is_not_sent_again.Goals as goal

pub returns : goal.returns
returns c a b fronts s t me k ps p resumes left =
    goes_on_behind (party (other me) a b) (party me a b).holdings ps p (sizes_at a b fronts me) resumes
    (subst (IsLeft (party (other me) a b) (party me a b).holdings) left (left_law a b fronts s t me k))
