use Rattle.std.proofs.Common.{drop, ◌++◌, ◌-◌, length}
use Rattle.uug_session.specs.TextsHeld.{size_of_text}
use Rattle.uug_session.proofs.TextSearchLemmas.{finds_text, finds_none, finds_too_long, text_is_found, none_is_found, too_long_is_found}
use Rattle.uug_session.proofs.text_laws.text_search_finds_the_first.Goals as goal

pub returns-clause-stands : goal.returns-clause-stands
returns-clause-stands c = finds_text

pub returns-clause-waits : goal.returns-clause-waits
returns-clause-waits c = finds_none

pub returns-clause-too_long : goal.returns-clause-too_long
returns-clause-too_long c = finds_too_long

pub returns-clause-some : goal.returns-clause-some
returns-clause-some c = λ front text behind h.
    (drop (length front - size_of_text text) (front ++ behind), text_is_found front text behind h)

pub returns-clause-none : goal.returns-clause-none
returns-clause-none c = none_is_found

pub returns-clause-long : goal.returns-clause-long
returns-clause-long c = too_long_is_found
