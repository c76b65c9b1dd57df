use Rattle.uug_conversation.proofs.TruthLemmas.{opening_tells_truly, step_tells_truly}
use Rattle.uug_conversation.proofs.laws.what_is_told_is_so.Goals as goal

pub returns-clause-answered : goal.returns-clause-answered
returns-clause-answered c = step_tells_truly

pub returns-clause-opened : goal.returns-clause-opened
returns-clause-opened c = λ side h l. opening_tells_truly h side l
