use Rattle.std.proofs.Common.{[], refl}
use Rattle.uug_session.specs.TextsHeld.{text_waits}
use Rattle.uug_session.proofs.TextCallLemmas.{taken_right_behind, taken_more, first_taken, taken_searched, taken_too_long, taken_are_first}
use Rattle.uug_session.proofs.text_laws.texts_are_taken_in_order.Goals as goal

pub returns-clause-begins : goal.returns-clause-begins
returns-clause-begins c = taken_right_behind [] [] [] refl

pub returns-clause-more : goal.returns-clause-more
returns-clause-more c = taken_more

pub returns-clause-stands : goal.returns-clause-stands
returns-clause-stands c = first_taken

pub returns-clause-behind : goal.returns-clause-behind
returns-clause-behind c = taken_right_behind

pub returns-clause-waits : goal.returns-clause-waits
returns-clause-waits c = λ texts accepted held rest t e.
    taken_searched texts accepted held (text_waits rest) (λ no. cc) e t

pub returns-clause-too_long : goal.returns-clause-too_long
returns-clause-too_long c = taken_too_long

pub returns-clause-first : goal.returns-clause-first
returns-clause-first c = taken_are_first
