use Rattle.uug_conversation.proofs.LimitLemmas.{may_be_given, too_large}
use Rattle.uug_conversation.proofs.laws.what_may_be_given.Goals as goal

pub returns-clause-given : goal.returns-clause-given
returns-clause-given c = may_be_given

pub returns-clause-too_large : goal.returns-clause-too_large
returns-clause-too_large c = too_large
