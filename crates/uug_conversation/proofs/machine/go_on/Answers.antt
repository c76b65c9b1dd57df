use Rattle.uug_conversation.proofs.MachineLemmas.{goes_on_is}
use Rattle.uug_conversation.proofs.machine.go_on.Goals as goal

pub returns-clause-reply : goal.returns-clause-reply
returns-clause-reply g c =
    goes_on_is (g.S.Spool.holdings c.args.spool.now) c.args.queue.now c.choose.new.queue c.args.before c.choose.result
    c.unwrap_or-order.result c.commands.result c.choose.ensures.next c.choose.ensures.lists c.unwrap_or-order.ensures c.commands.ensures
