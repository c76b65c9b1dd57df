use Rattle.uug_session.specs.Engine.{HasFailed}
use Rattle.uug_session.proofs.NumberStandingLemmas.{begins_right, event_keeps, late_keeps, lost_keeps, takes_all_keeps}
use Rattle.uug_session.proofs.node_laws.a_number_stands_as_the_session_does.Goals as goal

pub returns-clause-begins : goal.returns-clause-begins
returns-clause-begins g = begins_right

pub returns-clause-event : goal.returns-clause-event
returns-clause-event g = event_keeps

pub returns-clause-taken : goal.returns-clause-taken
returns-clause-taken g = λ h kept kept_after most faults later. takes_all_keeps h kept kept_after (HasFailed most faults later)

pub returns-clause-late : goal.returns-clause-late
returns-clause-late g = late_keeps

pub returns-clause-lost : goal.returns-clause-lost
returns-clause-lost g = lost_keeps
