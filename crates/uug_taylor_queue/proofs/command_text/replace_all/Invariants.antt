use Rattle.std.proofs.Common.{◌≡◌, length, map}
use Rattle.uug_taylor_queue.specs.Rewriting.{replacing, shown_text}
use Rattle.uug_taylor_queue.proofs.OverLemmas.{AreLeft}
use Rattle.uug_taylor_queue.proofs.command_text.replace_all.Given as goal

-- the files that are left are written still
abbrev pub invariant-loop-file : goal.invariant-loop-file
invariant-loop-file g l = record {
  left : AreLeft (replacing (map shown_text l.rest)) (g.D.Disk.done l.disk) (replacing (map shown_text l.fn.texts)) (g.D.Disk.done l.fn.disk);
  told : g.D.Disk.told l.disk ≡ g.D.Disk.told l.fn.disk;
  calm : g.D.Disk.fault_count l.disk ≡ g.D.Disk.fault_count l.fn.disk;
}

abbrev pub decreases-loop-file : goal.decreases-loop-file
decreases-loop-file g l = length l.rest
