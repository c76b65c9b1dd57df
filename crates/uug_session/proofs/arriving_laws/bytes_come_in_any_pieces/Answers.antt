use Rattle.uug_session.proofs.ArrivingLemmas.{enough, in_pieces, takes_next}
use Rattle.uug_session.proofs.arriving_laws.bytes_come_in_any_pieces.Goals as goal

pub returns-clause-pieces : goal.returns-clause-pieces
returns-clause-pieces g c = in_pieces _

pub returns-clause-enough : goal.returns-clause-enough
returns-clause-enough g c = enough _

pub returns-clause-first : goal.returns-clause-first
returns-clause-first g c = takes_next _
