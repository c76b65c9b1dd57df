use Rattle.uug_talk.proofs.StreamTextLemmas.{of_whole, of_rest, of_too_long}
use Rattle.uug_talk.proofs.laws.hearing_finds_the_texts.Goals as goal

pub returns-clause-whole : goal.returns-clause-whole
returns-clause-whole c = of_whole

pub returns-clause-rest : goal.returns-clause-rest
returns-clause-rest c = of_rest

pub returns-clause-too_long : goal.returns-clause-too_long
returns-clause-too_long c = of_too_long
