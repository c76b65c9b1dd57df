use Rattle.uug_taylor_text.proofs.WorkOrderLemmas.{one_order, on_a_par}
use Rattle.uug_taylor_text.proofs.laws.jobs_are_taken_in_one_order.Goals as goal

pub returns-clause-order : goal.returns-clause-order
returns-clause-order c = one_order

pub returns-clause-names : goal.returns-clause-names
returns-clause-names c = on_a_par
