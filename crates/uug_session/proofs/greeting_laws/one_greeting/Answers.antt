use Rattle.uug_session.proofs.Greetings.WholeGreetingLemmas.{some_run, one_run, one_left, some_whole, one_whole, one_left_of_whole}
use Rattle.uug_session.proofs.greeting_laws.one_greeting.Goals as goal

pub returns-clause-some : goal.returns-clause-some
returns-clause-some c = some_run

pub returns-clause-only : goal.returns-clause-only
returns-clause-only c = one_run

pub returns-clause-one_rest : goal.returns-clause-one_rest
returns-clause-one_rest c = one_left

pub returns-clause-whole : goal.returns-clause-whole
returns-clause-whole c = some_whole

pub returns-clause-only_whole : goal.returns-clause-only_whole
returns-clause-only_whole c = one_whole

pub returns-clause-one_rest_of_whole : goal.returns-clause-one_rest_of_whole
returns-clause-one_rest_of_whole c = one_left_of_whole
