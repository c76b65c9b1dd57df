use Rattle.uug_session.specs.Engine.{HasFailed}
use Rattle.uug_session.proofs.OwnRequestLemmas.{event_keeps, same_then, takes_all_keeps, then_keeps}
use Rattle.uug_session.proofs.node_laws.struck_requests_were_kept.Goals as goal

pub returns-clause-event : goal.returns-clause-event
returns-clause-event g = event_keeps

pub returns-clause-goes_on : goal.returns-clause-goes_on
returns-clause-goes_on g = λ h kept kept_after most faults later bytes before after goes_on. goes_on.requests

pub returns-clause-taken : goal.returns-clause-taken
returns-clause-taken g = λ h kept kept_after most faults later. takes_all_keeps h kept kept_after (HasFailed most faults later)

pub returns-clause-same : goal.returns-clause-same
returns-clause-same g = same_then

pub returns-clause-later : goal.returns-clause-later
returns-clause-later g = then_keeps
