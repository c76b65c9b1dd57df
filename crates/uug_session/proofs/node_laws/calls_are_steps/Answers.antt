use Rattle.uug_session.proofs.CallLemmas.{begun_with, late_beside, lost_beside}
use Rattle.uug_session.proofs.node_laws.calls_are_steps.Goals as goal

pub returns-clause-late : goal.returns-clause-late
returns-clause-late g = late_beside

pub returns-clause-lost : goal.returns-clause-lost
returns-clause-lost g = lost_beside

pub returns-clause-begins : goal.returns-clause-begins
returns-clause-begins g = begun_with
