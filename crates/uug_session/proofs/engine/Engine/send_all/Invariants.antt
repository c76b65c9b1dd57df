use Rattle.std.proofs.Common.{◌≡◌, ◌+◌, ◌-◌, ◌≤◌}
use Rattle.uug_link.specs.declared.limits.TheConstants.{WINDOW_MAX}
use Rattle.uug_link.specs.State.{IsUp}
use Rattle.uug_session.specs.Engine.{StandsStill, after_sends}
use Rattle.uug_session.proofs.engine.Engine.send_all.Given as goal

-- what is still to be sent leads to the same end
abbrev pub invariant-loop-sent : goal.invariant-loop-sent
invariant-loop-sent g l = record {
  same : l.spool ≡ l.fn.spool;
  within : l._sent ≤ WINDOW_MAX;
  sends : after_sends (WINDOW_MAX - l._sent) (g.S.Spool.holdings l.fn.spool) (g.S.Spool.kept l.fn.spool) l.self
      ≡ after_sends WINDOW_MAX (g.S.Spool.holdings l.fn.spool) (g.S.Spool.kept l.fn.spool) l.fn.self;
  still : StandsStill l.fn.self l.self;
  up : IsUp l.fn.self.link → IsUp l.self.link;
  spare : l.fn.self.outbox.spare ≤ l.self.outbox.spare + l._sent;
}
