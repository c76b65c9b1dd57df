use Rattle.std.proofs.Common.{◌≡◌, length}
use Rattle.uug_run.proofs.SpoolLockLemmas.{Since}
use Rattle.uug_transfer.proofs.ListeningLemmas.{Wrote}
use Rattle.uug_run.proofs.spool_lock.say.Given as goal

-- the front of the words has gone
abbrev pub invariant-loop-rest : goal.invariant-loop-rest
invariant-loop-rest g l = record {
  wrote : Wrote l.words l.rest (g.L.EndLine.taken l.fn.line) (g.L.EndLine.taken l.line);
  since : Since (g.L.EndLine.writes l.fn.line) (g.L.EndLine.writes l.line);
  received : g.L.EndLine.received l.line ≡ g.L.EndLine.received l.fn.line;
}

abbrev pub decreases-loop-rest : goal.decreases-loop-rest
decreases-loop-rest g l = length l.rest
