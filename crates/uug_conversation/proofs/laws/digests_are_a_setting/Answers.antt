use Rattle.uug_conversation.proofs.ComparingLemmas.{none_given, none_heard, none_told}
use Rattle.uug_conversation.proofs.laws.digests_are_a_setting.Goals as goal

pub returns-clause-ordered : goal.returns-clause-ordered
returns-clause-ordered c = none_told

pub returns-clause-given : goal.returns-clause-given
returns-clause-given c = none_given

pub returns-clause-heard : goal.returns-clause-heard
returns-clause-heard c = none_heard
