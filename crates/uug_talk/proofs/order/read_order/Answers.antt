use Rattle.std.proofs.Common.{◌∙◌}
use Rattle.uug_talk.proofs.OrderLemmas.{found_order, order_of-spelled}
use Rattle.uug_talk.proofs.RefusedLemmas.{refused_order}
use Rattle.uug_talk.proofs.order.read_order.Goals as goal

pub returns-clause-found : goal.returns-clause-found
returns-clause-found c = found_order c.args.text.now _ c.read_words.ensures

pub returns-clause-only : goal.returns-clause-only
returns-clause-only c = λ order h. c.read_words.ensures ∙ order_of-spelled c.args.text.now order h

pub returns-clause-refused : goal.returns-clause-refused
returns-clause-refused c = refused_order c.args.text.now _ c.read_words.ensures
