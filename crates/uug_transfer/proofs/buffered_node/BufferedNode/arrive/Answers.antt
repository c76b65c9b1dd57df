use Rattle.std.proofs.Common.{ap}
use Rattle.uug_transfer.proofs.LedLemmas.{led_cleared, led_later, led_some, led_taken}
use Rattle.uug_transfer.specs.Moments.{node_now}
use Rattle.uug_transfer.proofs.buffered_node.BufferedNode.arrive.Goals as goal

pub returns-in_default-clause-led : goal.returns-in_default-clause-led
returns-in_default-clause-led g c =
    led_some _ _ _ _ _ _ _ c.in_default.ensures.unfinished c.in_default.ensures.made_so_far c.arrive.ensures.holdings

pub returns-clause-led : goal.returns-clause-led
returns-clause-led g c =
    led_later _ (node_now g.S.Spool.holdings g.S.Spool.kept c.arrive.new.self) _
    (led_taken _ _ _ _ _ _ c.in-Ok.ensures.taken c.in-Ok.ensures.made c.arrive.ensures.holdings)
    (led_cleared _ _ c.note_emitted.ensures.engine (ap g.S.Spool.holdings c.note_emitted.ensures.spool)
    (ap g.S.Spool.kept c.note_emitted.ensures.spool))
