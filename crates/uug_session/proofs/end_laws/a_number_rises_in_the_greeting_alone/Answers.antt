use Rattle.uug_session.proofs.NumberLemmas.{step_number}
use Rattle.uug_session.proofs.end_laws.a_number_rises_in_the_greeting_alone.Goals as goal

pub returns-clause-step : goal.returns-clause-step
returns-clause-step g c = step_number
