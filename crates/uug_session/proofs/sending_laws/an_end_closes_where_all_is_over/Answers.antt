use Rattle.uug_session.proofs.OverLemmas.{begins_open, stays_open}
use Rattle.uug_session.proofs.sending_laws.an_end_closes_where_all_is_over.Goals as goal

pub returns-clause-first : goal.returns-clause-first
returns-clause-first g c = begins_open

pub returns-clause-stays : goal.returns-clause-stays
returns-clause-stays g c = stays_open
