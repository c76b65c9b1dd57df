use Rattle.uug_conversation.proofs.ComparingLemmas.{answer_awaited, answer_heard, order_awaited, order_heard, step_fits}
use Rattle.uug_conversation.proofs.ToldLemmas.{fits_decides}
use Rattle.uug_conversation.proofs.laws.kept_files_fit.Goals as goal

pub returns-clause-fits : goal.returns-clause-fits
returns-clause-fits c = fits_decides

pub returns-clause-kept : goal.returns-clause-kept
returns-clause-kept c = step_fits

pub returns-clause-sent : goal.returns-clause-sent
returns-clause-sent c = order_heard

pub returns-clause-asked : goal.returns-clause-asked
returns-clause-asked c = answer_heard

pub returns-clause-sent_awaited : goal.returns-clause-sent_awaited
returns-clause-sent_awaited c = order_awaited

pub returns-clause-asked_awaited : goal.returns-clause-asked_awaited
returns-clause-asked_awaited c = answer_awaited
