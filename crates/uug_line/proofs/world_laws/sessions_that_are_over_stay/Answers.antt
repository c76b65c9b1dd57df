use Rattle.uug_line.specs.RunKeeper.{by_themselves}
use Rattle.uug_line.proofs.PastLemmas.{past_stays, were_present}
use Rattle.uug_line.proofs.world_laws.sessions_that_are_over_stay.Goals as goal

pub returns-clause-stay : goal.returns-clause-stay
returns-clause-stay c = past_stays by_themselves

pub returns-clause-were_present : goal.returns-clause-were_present
returns-clause-were_present c = were_present
