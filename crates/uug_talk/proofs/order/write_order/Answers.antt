use Rattle.uug_talk.proofs.WriteLemmas.{ReadsOrder-written, IsCommandText-order}
use Rattle.uug_talk.proofs.order.write_order.Goals as goal

pub returns-clause-read_back : goal.returns-clause-read_back
returns-clause-read_back c = ReadsOrder-written _ c.args.order.now c.spell_order.ensures.names c.requires c.spell_order.ensures.text

pub returns-clause-command : goal.returns-clause-command
returns-clause-command c = IsCommandText-order _ c.args.order.now c.spell_order.ensures.names c.spell_order.ensures.text
