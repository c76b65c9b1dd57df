use Rattle.uug_session.proofs.TextCallLemmas.{texts_are_first, texts_stand, behind_is_held, no_others}
use Rattle.uug_session.proofs.text_laws.taken_texts_are_first.Goals as goal

pub returns-clause-texts : goal.returns-clause-texts
returns-clause-texts c = texts_are_first

pub returns-clause-stand : goal.returns-clause-stand
returns-clause-stand c = texts_stand

pub returns-clause-behind : goal.returns-clause-behind
returns-clause-behind c = behind_is_held

pub returns-clause-too_long : goal.returns-clause-too_long
returns-clause-too_long c = no_others
