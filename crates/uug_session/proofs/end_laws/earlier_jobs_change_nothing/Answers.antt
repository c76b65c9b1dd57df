use Rattle.uug_conversation.proofs.EarlierJobLemmas.{start_behind, opening_behind, step_behind}
use Rattle.uug_session.proofs.end_laws.earlier_jobs_change_nothing.Goals as goal

pub returns-clause-start : goal.returns-clause-start
returns-clause-start c = start_behind

pub returns-clause-opening : goal.returns-clause-opening
returns-clause-opening c = opening_behind

pub returns-clause-step : goal.returns-clause-step
returns-clause-step c = step_behind
