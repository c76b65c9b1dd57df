use Rattle.uug_session.proofs.PiecesLemmas.{goes_on_with_more, stays_over, whole_goes_on_with_more, whole_stays_over}
use Rattle.uug_session.proofs.greeting_laws.greeting_in_pieces.Goals as goal

pub returns-clause-goes_on : goal.returns-clause-goes_on
returns-clause-goes_on c = goes_on_with_more

pub returns-clause-over : goal.returns-clause-over
returns-clause-over c = stays_over

pub returns-clause-whole_goes_on : goal.returns-clause-whole_goes_on
returns-clause-whole_goes_on c = whole_goes_on_with_more

pub returns-clause-whole_over : goal.returns-clause-whole_over
returns-clause-whole_over c = whole_stays_over
