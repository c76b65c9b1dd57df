use Rattle.uug_conversation.proofs.LimitLemmas.{past_strict_limit}
use Rattle.uug_conversation.proofs.StrictLemmas.{unread_ends, held_stays, wish_unread, spool_decides, opening_drops_none, step_drops_none}
use Rattle.uug_conversation.proofs.laws.lenient_is_a_setting.Goals as goal

pub returns-clause-unread : goal.returns-clause-unread
returns-clause-unread c = unread_ends

pub returns-clause-held : goal.returns-clause-held
returns-clause-held c = held_stays

pub returns-clause-wish : goal.returns-clause-wish
returns-clause-wish c = wish_unread

pub returns-clause-long : goal.returns-clause-long
returns-clause-long c = past_strict_limit

pub returns-clause-large : goal.returns-clause-large
returns-clause-large c = spool_decides

pub returns-clause-opens : goal.returns-clause-opens
returns-clause-opens c = opening_drops_none

pub returns-clause-drops_none : goal.returns-clause-drops_none
returns-clause-drops_none c = step_drops_none
