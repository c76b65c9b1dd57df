use Rattle.std.proofs.Common.{ap}
use Rattle.uug_transfer.proofs.LedLemmas.{led_same}
use Rattle.uug_transfer.proofs.turns.move_end.Goals as goal

pub returns-in_err-write_some-clause-led : goal.returns-in_err-write_some-clause-led
returns-in_err-write_some-clause-led g c =
    led_same _ _ c.write_some.ensures.node (ap g.S.Spool.holdings c.write_some.ensures.spool)
    (ap g.S.Spool.kept c.write_some.ensures.spool)
