use Rattle.std.proofs.Common.{◌≡◌, ◌-◌, ◌≤◌, length, take}
use Rattle.uug_session.specs.Engine.{HasFailed, faults_max}
use Rattle.uug_session.specs.Node.{node_of}
use Rattle.uug_session.specs.NodeArriving.{GoesOn}
use Rattle.uug_session.specs.NodeCalls.{IsMadeOfCalls, beside}
use Rattle.uug_session.specs.Sending.{SaysWhatItCan}
use Rattle.uug_session.proofs.node.Node.arrive.Given as goal

abbrev pub invariant-loop-self : goal.invariant-loop-self
invariant-loop-self g l = record {
  same : l.piece ≡ l.fn.piece;
  used : l.used ≤ length l.piece;
  goes_on : GoesOn (g.S.Spool.holdings l.fn.self.spool) (g.S.Spool.kept l.fn.self.spool) (g.S.Spool.kept l.self.spool)
      (HasFailed faults_max (g.S.Spool.faults l.fn.self.spool) (g.S.Spool.faults l.self.spool))
      (take l.used l.piece) (node_of l.fn.self) (node_of l.self);
  made : IsMadeOfCalls (g.S.Spool.holdings l.fn.self.spool) faults_max (take l.used l.piece)
      (beside (node_of l.fn.self) (g.S.Spool.kept l.fn.self.spool) (g.S.Spool.faults l.fn.self.spool))
      (beside (node_of l.self) (g.S.Spool.kept l.self.spool) (g.S.Spool.faults l.self.spool));
  says : SaysWhatItCan (node_of l.fn.self).engine → SaysWhatItCan (node_of l.self).engine;
  holdings : g.S.Spool.holdings l.self.spool ≡ g.S.Spool.holdings l.fn.self.spool;
  count : g.S.Spool.faults l.fn.self.spool ≤ g.S.Spool.faults l.self.spool;
}

abbrev pub decreases-loop-self : goal.decreases-loop-self
decreases-loop-self g l = length l.piece - l.used
