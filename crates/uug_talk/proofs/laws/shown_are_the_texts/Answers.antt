use Rattle.uug_talk.proofs.StreamTextLemmas.{calls_rest, calls_whole, calls_too_long}
use Rattle.uug_talk.proofs.laws.shown_are_the_texts.Goals as goal

pub returns-clause-rest : goal.returns-clause-rest
returns-clause-rest c = calls_rest

pub returns-clause-whole : goal.returns-clause-whole
returns-clause-whole c = calls_whole

pub returns-clause-too_long : goal.returns-clause-too_long
returns-clause-too_long c = calls_too_long
