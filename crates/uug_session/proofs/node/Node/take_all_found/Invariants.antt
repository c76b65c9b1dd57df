use Rattle.std.proofs.Common.{◌≡◌, ◌≤◌, [], length}
use Rattle.uug_session.specs.Engine.{HasFailed, faults_max}
use Rattle.uug_session.specs.Node.{held_bytes, node_of}
use Rattle.uug_session.specs.NodeArriving.{GoesOn}
use Rattle.uug_session.specs.NodeCalls.{IsMadeOfCalls, beside}
use Rattle.uug_session.specs.Sending.{SaysWhatItCan}
use Rattle.uug_session.proofs.node.Node.take_all_found.Given as goal

abbrev pub invariant-loop : goal.invariant-loop
invariant-loop g l = record {
  goes_on : GoesOn (g.S.Spool.holdings l.fn.self.spool) (g.S.Spool.kept l.fn.self.spool) (g.S.Spool.kept l.self.spool)
      (HasFailed faults_max (g.S.Spool.faults l.fn.self.spool) (g.S.Spool.faults l.self.spool)) [] (node_of l.fn.self) (node_of l.self);
  made : IsMadeOfCalls (g.S.Spool.holdings l.fn.self.spool) faults_max []
      (beside (node_of l.fn.self) (g.S.Spool.kept l.fn.self.spool) (g.S.Spool.faults l.fn.self.spool))
      (beside (node_of l.self) (g.S.Spool.kept l.self.spool) (g.S.Spool.faults l.self.spool));
  says : SaysWhatItCan (node_of l.fn.self).engine → SaysWhatItCan (node_of l.self).engine;
  holdings : g.S.Spool.holdings l.self.spool ≡ g.S.Spool.holdings l.fn.self.spool;
  count : g.S.Spool.faults l.fn.self.spool ≤ g.S.Spool.faults l.self.spool;
}

abbrev pub decreases-loop : goal.decreases-loop
decreases-loop g l = length (held_bytes (node_of l.self))
