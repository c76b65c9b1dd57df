use Rattle.uug_talk.proofs.StreamTextLemmas.{in_pieces, too_long_for_good, of_more}
use Rattle.uug_talk.proofs.laws.texts_in_pieces.Goals as goal

pub returns-clause-rest : goal.returns-clause-rest
returns-clause-rest c = in_pieces

pub returns-clause-too_long : goal.returns-clause-too_long
returns-clause-too_long c = too_long_for_good

pub returns-clause-continued : goal.returns-clause-continued
returns-clause-continued c = of_more
