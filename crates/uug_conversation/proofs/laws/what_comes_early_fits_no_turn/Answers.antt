use Rattle.uug_conversation.proofs.EarlyLemmas.{early_when_sent, early_when_given, taken_when_none_waits, taken_by_others}
use Rattle.uug_conversation.proofs.laws.what_comes_early_fits_no_turn.Goals as goal

pub returns-clause-sent : goal.returns-clause-sent
returns-clause-sent c = early_when_sent

pub returns-clause-given : goal.returns-clause-given
returns-clause-given c = early_when_given

pub returns-clause-none_waits : goal.returns-clause-none_waits
returns-clause-none_waits c = taken_when_none_waits

pub returns-clause-others : goal.returns-clause-others
returns-clause-others c = taken_by_others
