use Rattle.uug_link.proofs.ArrivalLemmas.{same_is, place_is, arrival_happens, arrival_runs}
use Rattle.uug_link.proofs.laws.arrivals.Goals as goal

pub returns : goal.returns
returns c = record { same = same_is; place = place_is; happens = arrival_happens; longer = arrival_runs }
