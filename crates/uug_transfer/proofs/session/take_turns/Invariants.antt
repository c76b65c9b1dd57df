use Rattle.uug_transfer.specs.BufferedNodes.{injector_in, node_in, to_write}
use Rattle.uug_transfer.specs.LineSessions.{WritesWhatIsOnDisk}
use Rattle.uug_transfer.specs.Moments.{end_now, unsent}
use Rattle.uug_transfer.specs.Settling.{IsOnDisk}
use Rattle.uug_transfer.specs.ReadBudgets.{turns_left}
use Rattle.uug_transfer.proofs.ReceivedLemmas.{SpendsSince}
use Rattle.uug_transfer.proofs.SessionLemmas.{Stands}
use Rattle.uug_transfer.proofs.session.take_turns.Given as goal

abbrev pub invariant-loop-alloc : goal.invariant-loop-alloc
invariant-loop-alloc g l = record {
  stands : Stands l.fn.most (end_now g.S.Spool.holdings g.S.Spool.kept l.fn.buffered) (end_now g.S.Spool.holdings g.S.Spool.kept l.buffered)
      (unsent l.fn.buffered) (g.H.Host.now l.fn.host) (g.H.Host.now l.host) (injector_in l.buffered) (to_write l.buffered) l.settled.number;
  spends : SpendsSince l.fn.most l.budget.bytes l.budget.silences (g.H.Host.now l.fn.host).line.received (g.H.Host.now l.host).line.received;
  on_disk : IsOnDisk l.settled (node_in l.buffered) (g.H.Host.now l.host).disk.number;
  said : WritesWhatIsOnDisk l.fn.most (end_now g.S.Spool.holdings g.S.Spool.kept l.fn.buffered) (unsent l.fn.buffered)
      (g.H.Host.now l.fn.host) (g.H.Host.after_writes l.fn.host) (g.H.Host.after_writes l.host);
}

abbrev pub decreases-loop-alloc : goal.decreases-loop-alloc
decreases-loop-alloc g l = turns_left l.budget.bytes l.budget.silences
