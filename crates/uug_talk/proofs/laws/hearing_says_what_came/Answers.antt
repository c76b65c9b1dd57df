use Rattle.uug_talk.proofs.TextLemmas.{took, took_of}
use Rattle.uug_talk.proofs.laws.hearing_says_what_came.Goals as goal

pub returns-clause-holds : goal.returns-clause-holds
returns-clause-holds c = λ heard next before piece used h e. took piece heard next before used h e

pub returns-clause-used : goal.returns-clause-used
returns-clause-used c = λ heard next piece used e. took_of piece heard next used e
