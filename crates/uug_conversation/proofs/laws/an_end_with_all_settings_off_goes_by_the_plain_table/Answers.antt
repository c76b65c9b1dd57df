use Rattle.uug_conversation.proofs.PlainLemmas.{opening_plain, opening_so, reply_so, reply_stays, step_so}
use Rattle.uug_conversation.proofs.laws.an_end_with_all_settings_off_goes_by_the_plain_table.Goals as goal

pub returns-clause-opens : goal.returns-clause-opens
returns-clause-opens c side h l off = opening_so h off.untold side l

pub returns-clause-steps : goal.returns-clause-steps
returns-clause-steps c h s message off plain = step_so h off.untold off s message plain

pub returns-clause-replies : goal.returns-clause-replies
returns-clause-replies c h none_waits s message off plain = reply_so h off.untold off none_waits s message plain

pub returns-clause-first : goal.returns-clause-first
returns-clause-first c = opening_plain

pub returns-clause-stays : goal.returns-clause-stays
returns-clause-stays c = reply_stays
