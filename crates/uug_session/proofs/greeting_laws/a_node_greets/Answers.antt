use Rattle.uug_session.proofs.Greetings.GreetingCallLemmas.{greets_first, greets_through}
use Rattle.uug_session.proofs.Greetings.HeardGreetingLemmas.{greets_still, has_begun_link, has_ended, whole}
use Rattle.uug_session.proofs.greeting_laws.a_node_greets.Goals as goal

pub returns-clause-steps : goal.returns-clause-steps
returns-clause-steps c = λ h most id. greets_through h most id

pub returns-clause-at_first : goal.returns-clause-at_first
returns-clause-at_first c = greets_first

pub returns-clause-goes_on : goal.returns-clause-goes_on
returns-clause-goes_on c = λ h id own number entries came behind now run g m greets is.
    greets_still h id own number entries came now m behind run greets g is

pub returns-clause-ended : goal.returns-clause-ended
returns-clause-ended c = λ h id own number entries came behind now run how m greets is.
    has_ended h id own number entries came now m behind run greets how is

pub returns-clause-link : goal.returns-clause-link
returns-clause-link c = λ h id own number entries came behind now run m greets is.
    has_begun_link h id own number entries came now m behind run greets is

pub returns-clause-comes : goal.returns-clause-comes
returns-clause-comes c = λ h id own number talk failures came behind run greets.
    (whole h id own number talk failures came behind run greets).same
