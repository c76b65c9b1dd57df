use Rattle.uug_session.proofs.LinkEndLemmas.{begins_alive, starts, step_ends}
use Rattle.uug_session.proofs.end_laws.a_session_ends_with_its_link.Goals as goal

pub returns-clause-first : goal.returns-clause-first
returns-clause-first g c = begins_alive _

pub returns-clause-stays : goal.returns-clause-stays
returns-clause-stays g c = step_ends _

pub returns-clause-starting : goal.returns-clause-starting
returns-clause-starting g c = starts _
