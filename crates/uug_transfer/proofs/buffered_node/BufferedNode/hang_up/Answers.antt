use Rattle.std.proofs.Common.{ap}
use Rattle.uug_transfer.proofs.LedLemmas.{led_lost}
use Rattle.uug_transfer.proofs.buffered_node.BufferedNode.hang_up.Goals as goal

pub returns-clause-led : goal.returns-clause-led
returns-clause-led g c =
    led_lost _ _ c.hang_up.ensures.stage (ap g.S.Spool.holdings c.hang_up.ensures.spool) (ap g.S.Spool.kept c.hang_up.ensures.spool)
