use Rattle.std.proofs.Common.{[], None}
use Rattle.uug_conversation.proofs.SayableLemmas.{command_is_sayable}
use Rattle.uug_conversation.proofs.dialogue.opening.Goals as goal

pub returns-in-Caller-clause-sayable : goal.returns-in-Caller-clause-sayable
returns-in-Caller-clause-sayable g c =
    command_is_sayable (g.S.Spool.holdings c.args.spool.now) (g.met.S.Spool.modes c.args.spool.now) None tt
    c.args.queue.now c.go_on.new.queue c.go_on.result [] c.go_on.ensures.reply
