use Rattle.uug_session.specs.Engine.{HasFailed}
use Rattle.uug_session.proofs.ComparedLemmas.{event_compares, takes_all_compares}
use Rattle.uug_session.proofs.node_laws.kept_files_fit.Goals as goal

pub returns-clause-event : goal.returns-clause-event
returns-clause-event g = event_compares

pub returns-clause-taken : goal.returns-clause-taken
returns-clause-taken g = λ h kept kept_after most faults later. takes_all_compares h kept kept_after (HasFailed most faults later)
