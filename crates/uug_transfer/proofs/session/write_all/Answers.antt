use Rattle.std.proofs.Common.{◌<◌, ℕ, List, take, length, refl, ap, subst, inr, ◌∙◌}
use Rattle.uug_transfer.specs.BufferedNodes.{to_write}
use Rattle.uug_transfer.specs.Hosts.{HasOnlyWritten}
use Rattle.uug_transfer.specs.Moments.{HostNow}
use Rattle.uug_transfer.specs.Writing.{also_taken}
use Rattle.uug_transfer.proofs.HostLemmas.{all_since_none, all_since_one}
use Rattle.uug_transfer.proofs.ListeningLemmas.{wrote_more, wrote_none}
use Rattle.uug_transfer.proofs.StallLemmas.{goes_on, only_written, stalls_more, stalls_none, written_all}
use Rattle.uug_transfer.proofs.session.write_all.Goals as goal

pub loop-host-init : goal.loop-host-init
loop-host-init g c = record {
  node = refl;
  spool = refl;
  injector = refl;
  wrote = wrote_none (to_write c.args.buffered.now) (g.H.Host.now c.args.host.now).line.taken;
  stalls = stalls_none (g.H.Host.now c.args.host.now).line.writes;
  goes_on = inr refl;
  received = refl;
  lent = refl;
  disk = refl;
  writes = all_since_none (HasOnlyWritten (to_write c.args.buffered.now) (g.H.Host.now c.args.host.now)) (g.H.Host.after_writes c.args.host.now);
}

pub loop-host-preserved : goal.loop-host-preserved
loop-host-preserved g c =
    let wrote = wrote_more _ _ _ c.write-count.result _ _ _ c.loop-host.invariant.wrote c.written.ensures.outgoing
    (ap (λ (h : HostNow). h.line.taken) c.write-count.ensures.done
    ∙ ap (λ piece. also_taken (take c.write-count.result piece) (g.H.Host.now c.loop-host.host).line.taken) c.outgoing-in-loop-host.ensures) in
    let stalls = stalls_more _ c.write-count.result _ _ _ _ c.loop-host.invariant.stalls (c.may_write.ensures.0 c.loop-host-test.true).0
    (ap (λ (h : HostNow). h.line.writes) c.write-count.ensures.done) c.stalls_left-silences.ensures in
    let received = ap (λ (h : HostNow). h.line.received) c.write-count.ensures.done ∙ c.loop-host.invariant.received in
    let lent = ap (λ (h : HostNow). h.lent) c.write-count.ensures.done ∙ c.loop-host.invariant.lent in
    let disk = ap (λ (h : HostNow). h.disk) c.write-count.ensures.done ∙ c.loop-host.invariant.disk in
    record {
      node = c.written.ensures.node ∙ c.loop-host.invariant.node;
      spool = c.written.ensures.spool ∙ c.loop-host.invariant.spool;
      injector = c.written.ensures.injector ∙ c.loop-host.invariant.injector;
      wrote = wrote;
      stalls = stalls;
      goes_on = goes_on c.write-count.result _ _ _ _
          (subst (λ (x : List ℕ). 0 < length x) c.outgoing.ensures (c.may_write.ensures.0 c.loop-host-test.true).1) c.written.ensures.outgoing c.stalls_left-silences.ensures;
      received = received;
      lent = lent;
      disk = disk;
      writes = all_since_one (HasOnlyWritten (to_write c.args.buffered.now) (g.H.Host.now c.args.host.now)) (g.H.Host.now c.write-count.new.self) _ _ _ c.loop-host.invariant.writes
          (only_written _ _ _ _ _ lent disk received wrote stalls) c.write-count.ensures.writes;
    }

pub returns-clause-only : goal.returns-clause-only
returns-clause-only g c = only_written _ _ _ _ _ c.loop-host.invariant.lent c.loop-host.invariant.disk c.loop-host.invariant.received c.loop-host.invariant.wrote
    c.loop-host.invariant.stalls

pub returns-clause-no_wait : goal.returns-clause-no_wait
returns-clause-no_wait g c all =
    written_all _ _ c.outgoing-2.result.now c.is_empty.result _ _ c.outgoing-2.ensures c.is_empty.ensures all c.loop-host.invariant.goes_on
    c.loop-host.invariant.stalls
