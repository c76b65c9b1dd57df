use Rattle.uug_session.proofs.NumberLemmas.{begun_risen, called_number, caller_number, refused_stays}
use Rattle.uug_session.proofs.greeting_laws.a_number_rises_where_a_call_is_let_in.Goals as goal

pub returns-clause-called : goal.returns-clause-called
returns-clause-called c = λ me peer number delivered behind run m. (called_number me peer number delivered behind run m).let_in

pub returns-clause-caller : goal.returns-clause-caller
returns-clause-caller c = λ me peer number delivered behind run m. (caller_number me peer number delivered behind run m).once

pub returns-clause-begun : goal.returns-clause-begun
returns-clause-begun c = begun_risen

pub returns-clause-refused : goal.returns-clause-refused
returns-clause-refused c = refused_stays
