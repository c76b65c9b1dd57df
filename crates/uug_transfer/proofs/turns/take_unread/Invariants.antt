use Rattle.std.proofs.Common.{◌≡◌}
use Rattle.uug_transfer.specs.Moments.{IsLed, end_now}
use Rattle.uug_transfer.specs.Turns.{HasRoom}
use Rattle.uug_transfer.proofs.turns.take_unread.Given as goal

abbrev pub invariant-loop-at : goal.invariant-loop-at
invariant-loop-at g l = record {
  led : IsLed (end_now g.S.Spool.holdings g.S.Spool.kept l.fn.buffered) (end_now g.S.Spool.holdings g.S.Spool.kept l.buffered);
  room : HasRoom (g.L.Line.unread l.line);
  calm : g.L.Line.fault_count l.line ≡ g.L.Line.fault_count l.fn.line;
}

abbrev pub decreases-loop-at : goal.decreases-loop-at
decreases-loop-at g l = g.L.Line.unread l.line l.at
