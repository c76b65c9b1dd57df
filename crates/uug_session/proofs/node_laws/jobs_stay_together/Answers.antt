use Rattle.uug_session.specs.Engine.{HasFailed}
use Rattle.uug_session.proofs.SameJobsLemmas.{event_moves, goes_on_together, moved_together, takes_all_together}
use Rattle.uug_session.proofs.node_laws.jobs_stay_together.Goals as goal

pub returns-clause-event : goal.returns-clause-event
returns-clause-event g = event_moves

pub returns-clause-moved : goal.returns-clause-moved
returns-clause-moved g = moved_together

pub returns-clause-goes_on : goal.returns-clause-goes_on
returns-clause-goes_on g = λ h kept kept_after most faults later. goes_on_together h kept kept_after (HasFailed most faults later)

pub returns-clause-taken : goal.returns-clause-taken
returns-clause-taken g = λ h kept kept_after most faults later. takes_all_together h kept kept_after (HasFailed most faults later)
