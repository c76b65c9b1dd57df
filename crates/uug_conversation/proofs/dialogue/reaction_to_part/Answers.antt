use Rattle.std.proofs.Common.{[]}
use Rattle.uug_conversation.proofs.SayableLemmas.{text_is_sayable}
use Rattle.uug_conversation.proofs.dialogue.reaction_to_part.Goals as goal

pub returns-in-Ok-Whole-clause-sayable : goal.returns-in-Ok-Whole-clause-sayable
returns-in-Ok-Whole-clause-sayable g c =
    text_is_sayable (g.S.Spool.holdings c.args.spool.now) (g.met.S.Spool.modes c.args.spool.now) c.args.awaits.now
    c.bytes.result.now c.args.queue.now c.on_text.new.queue c.on_text.result [] c.on_text.ensures.reply
