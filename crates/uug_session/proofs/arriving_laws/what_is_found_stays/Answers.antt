use Rattle.uug_session.proofs.ArrivingLemmas.{found_more, found_fewer}
use Rattle.uug_session.proofs.arriving_laws.what_is_found_stays.Goals as goal

pub returns-clause-more : goal.returns-clause-more
returns-clause-more c = found_more

pub returns-clause-fewer : goal.returns-clause-fewer
returns-clause-fewer c = found_fewer
