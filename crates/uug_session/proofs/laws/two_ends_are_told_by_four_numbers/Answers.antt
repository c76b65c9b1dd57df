use Rattle.uug_conversation.proofs.FirstLaw.{first_law}
use Rattle.uug_session.proofs.TwoEndsLemmas.{two_ends}
use Rattle.uug_session.proofs.laws.two_ends_are_told_by_four_numbers.Goals as goal

pub returns : goal.returns
returns c a b fronts s t = two_ends a b (first_law a b fronts s t)
