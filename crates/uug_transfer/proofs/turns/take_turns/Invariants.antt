use Rattle.std.proofs.Common.{◌≡◌}
use Rattle.uug_transfer.specs.Moments.{IsLed, end_now}
use Rattle.uug_transfer.specs.Turns.{HasRoom}
use Rattle.uug_transfer.proofs.turns.take_turns.Given as goal

abbrev pub invariant-loop : goal.invariant-loop
invariant-loop g l = record {
  caller_led : IsLed (end_now g.S.Spool.holdings g.S.Spool.kept l.fn.caller) (end_now g.S.Spool.holdings g.S.Spool.kept l.caller);
  called_led : IsLed (end_now g.T.Spool.holdings g.T.Spool.kept l.fn.called) (end_now g.T.Spool.holdings g.T.Spool.kept l.called);
  room : HasRoom (g.L.Line.unread l.line);
  calm : g.L.Line.fault_count l.line ≡ g.L.Line.fault_count l.fn.line;
}
