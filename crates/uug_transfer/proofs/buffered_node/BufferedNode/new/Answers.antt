use Rattle.std.proofs.Common.{ap}
use Rattle.uug_transfer.proofs.LedLemmas.{led_cleared}
use Rattle.uug_transfer.proofs.buffered_node.BufferedNode.new.Goals as goal

pub returns-clause-led : goal.returns-clause-led
returns-clause-led g c =
    led_cleared _ _ c.note_emitted.ensures.engine (ap g.S.Spool.holdings c.note_emitted.ensures.spool)
    (ap g.S.Spool.kept c.note_emitted.ensures.spool)
