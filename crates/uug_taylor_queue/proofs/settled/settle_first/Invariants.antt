use Rattle.std.proofs.Common.{◌≡◌}
use Rattle.uug_taylor_queue.specs.Code.Parting.{first_ops}
use Rattle.uug_taylor_queue.proofs.OverLemmas.{AreLeft}
use Rattle.uug_taylor_queue.proofs.settled.settle_first.Given as goal

-- the lines that are left go still
abbrev pub invariant-loop-count : goal.invariant-loop-count
invariant-loop-count g l = record {
  left : AreLeft (first_ops l.outcome l.count l.rest) (g.D.Disk.done l.disk) (first_ops l.fn.outcome l.fn.count l.fn.lines) (g.D.Disk.done l.fn.disk);
  told : g.D.Disk.told l.disk ≡ g.D.Disk.told l.fn.disk;
  calm : g.D.Disk.fault_count l.disk ≡ g.D.Disk.fault_count l.fn.disk;
}

abbrev pub decreases-loop-count : goal.decreases-loop-count
decreases-loop-count g l = l.count
