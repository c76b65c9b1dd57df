use Rattle.uug_session.proofs.TextCallLemmas.{shows_shown, found_again, shown_stays}
use Rattle.uug_session.proofs.text_laws.a_shown_text_stays.Goals as goal

pub returns-clause-is : goal.returns-clause-is
returns-clause-is c = shows_shown

pub returns-clause-again : goal.returns-clause-again
returns-clause-again c = found_again

pub returns-clause-stays : goal.returns-clause-stays
returns-clause-stays c = shown_stays
