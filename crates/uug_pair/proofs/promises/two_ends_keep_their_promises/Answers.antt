use Rattle.uug_pair.proofs.TwoCoursesLaw.{two_keep}
use Rattle.uug_pair.proofs.promises.two_ends_keep_their_promises.Goals as goal

pub returns : goal.returns
returns c ends order sound none =
    two_keep ends order sound none
