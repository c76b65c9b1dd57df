use Rattle.std.proofs.Common.{[], ◌∷◌}
use Rattle.uug_session.specs.declared.end.End.TheVariants.{WrongName, Refused, BadSequence}
use Rattle.uug_session.specs.declared.greeting.AwaitedText.TheVariants.{CallerName}
use Rattle.uug_session.specs.declared.greeting.Greeted.TheVariants.{GoesOn, LinkBegins, Ended}
use Rattle.uug_session.specs.Greeting.{called_text, first_greeting, risen}
use Rattle.uug_session.specs.WholeGreeting.{saying_first}
use Rattle.uug_session.proofs.CleanLineLemmas.{answer, become_whole, both_begin, wrong_end, wrong_number, unknown_caller, greet, some_answer, equal, unequal}
use Rattle.uug_session.proofs.greeting_laws.ends_that_expect_each_other_begin.Goals as goal

pub returns-clause-begin : goal.returns-clause-begin
returns-clause-begin c = λ caller called m n at_caller at_called h k k_m k_n same met.
    become_whole caller called called caller m n at_caller at_called LinkBegins LinkBegins (risen m) (risen n) met
    (both_begin caller called called caller m n met.caller_hears.heard met.called_hears.heard h k_m (equal called) (equal caller) same
    (answer caller called called caller m n at_caller at_called h k k_m k_n met))

pub returns-clause-wrong_called : goal.returns-clause-wrong_called
returns-clause-wrong_called c = λ caller meant called expected m n at_caller at_called h k k_m k_n other met.
    become_whole caller meant called expected m n at_caller at_called (Ended WrongName) (GoesOn (first_greeting CallerName)) m n met
    (wrong_end caller meant called expected m n met.caller_hears.heard met.called_hears.heard (unequal called meant other)
    (answer caller meant called expected m n at_caller at_called h k k_m k_n met))

pub returns-clause-wrong_caller : goal.returns-clause-wrong_caller
returns-clause-wrong_caller c = λ caller called expected m n at_caller at_called h k k_m k_n other met.
    become_whole caller called called expected m n at_caller at_called (Ended Refused) (Ended Refused) m n met
    (unknown_caller caller called called expected m n met.caller_hears.heard met.called_hears.heard h k_m (equal called) (unequal caller expected other)
    (answer caller called called expected m n at_caller at_called h k k_m k_n met))

pub returns-clause-wrong_number : goal.returns-clause-wrong_number
returns-clause-wrong_number c = λ caller called m n at_caller at_called h k k_m k_n other met.
    become_whole caller called called caller m n at_caller at_called (Ended BadSequence) (Ended BadSequence) m n met
    (wrong_number caller called called caller m n met.caller_hears.heard met.called_hears.heard h k_m (equal called) (equal caller) other
    (answer caller called called caller m n at_caller at_called h k k_m k_n met))

pub returns-clause-greet : goal.returns-clause-greet
returns-clause-greet c = λ caller meant called expected m n h k k_m k_n.
    let runs = some_answer caller meant called expected m n h k_m in
    (runs.0, saying_first (called_text called ∷ []) runs.1, greet caller meant called expected m n runs.0 runs.1 h k k_m k_n runs.2)
