use Rattle.std.proofs.Common.{◌≡◌, length}
use Rattle.uug_transfer.specs.BufferedNodes.{injector_in, node_in, spool_in, to_write}
use Rattle.uug_transfer.specs.Hosts.{AllSince, HasOnlyWritten}
use Rattle.uug_transfer.specs.ReadBudgets.{turns_left}
use Rattle.uug_transfer.proofs.ListeningLemmas.{Wrote}
use Rattle.uug_transfer.proofs.StallLemmas.{GoesOn, StallsSince}
use Rattle.uug_transfer.proofs.session.write_all.Given as goal

abbrev pub invariant-loop-host : goal.invariant-loop-host
invariant-loop-host g l = record {
  node : node_in l.buffered ≡ node_in l.fn.buffered;
  spool : spool_in l.buffered ≡ spool_in l.fn.buffered;
  injector : injector_in l.buffered ≡ injector_in l.fn.buffered;
  wrote : Wrote (to_write l.fn.buffered) (to_write l.buffered) (g.H.Host.now l.fn.host).line.taken (g.H.Host.now l.host).line.taken;
  stalls : StallsSince l.silences (g.H.Host.now l.fn.host).line.writes (g.H.Host.now l.host).line.writes;
  goes_on : GoesOn l.silences (to_write l.buffered);
  received : (g.H.Host.now l.host).line.received ≡ (g.H.Host.now l.fn.host).line.received;
  lent : (g.H.Host.now l.host).lent ≡ (g.H.Host.now l.fn.host).lent;
  disk : (g.H.Host.now l.host).disk ≡ (g.H.Host.now l.fn.host).disk;
  writes : AllSince (HasOnlyWritten (to_write l.fn.buffered) (g.H.Host.now l.fn.host)) (g.H.Host.after_writes l.fn.host) (g.H.Host.after_writes l.host);
}

abbrev pub decreases-loop-host : goal.decreases-loop-host
decreases-loop-host g l = turns_left (length (to_write l.buffered)) l.silences
