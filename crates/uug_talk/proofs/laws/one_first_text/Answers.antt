use Rattle.uug_talk.proofs.FirstTextLemmas.{same_text, same_place, text_or_too_long}
use Rattle.uug_talk.proofs.laws.one_first_text.Goals as goal

pub returns-clause-texts : goal.returns-clause-texts
returns-clause-texts c = same_text

pub returns-clause-too_long : goal.returns-clause-too_long
returns-clause-too_long c = same_place

pub returns-clause-apart : goal.returns-clause-apart
returns-clause-apart c = text_or_too_long
