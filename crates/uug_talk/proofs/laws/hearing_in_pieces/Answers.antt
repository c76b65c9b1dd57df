use Rattle.uug_talk.proofs.TextLemmas.{goes_on, stays_whole, stays_too_long}
use Rattle.uug_talk.proofs.laws.hearing_in_pieces.Goals as goal

pub returns-clause-goes_on : goal.returns-clause-goes_on
returns-clause-goes_on c = λ heard next piece more used e f. goes_on piece more heard next used e f

pub returns-clause-whole : goal.returns-clause-whole
returns-clause-whole c = λ heard next piece more used e f. stays_whole piece more heard next used e f

pub returns-clause-too_long : goal.returns-clause-too_long
returns-clause-too_long c = λ heard piece more e. stays_too_long piece more heard e
