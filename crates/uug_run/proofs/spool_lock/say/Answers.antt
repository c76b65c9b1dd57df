use Rattle.std.proofs.Common.{rules, refl, ◌∙◌}
use Rattle.std.proofs.lemmas.List.{nil_from_length}
use Rattle.uug_transfer.proofs.ListeningLemmas.{wrote_none}
use Rattle.uug_run.proofs.SpoolLockLemmas.{goes_on, says_all, says_until, since_more, since_none}
use Rattle.uug_run.proofs.spool_lock.say.Goals as goal

pub loop-rest-init : goal.loop-rest-init
loop-rest-init g c = record {
  wrote = wrote_none c.args.words.now (g.L.EndLine.taken c.args.line.now);
  since = since_none (g.L.EndLine.writes c.args.line.now);
  received = refl;
}

pub loop-rest-preserved : goal.loop-rest-preserved
loop-rest-preserved g c = record {
  wrote = goes_on _ c.loop-rest.rest.now c.write-count.result _ _ _ c.loop-rest.invariant.wrote c.write-count.ensures.taken;
  since = since_more c.write-count.result _ _ _ c.loop-rest.invariant.since c.write-count.ensures.writes;
  received = c.write-count.ensures.received ∙ c.loop-rest.invariant.received;
}

pub returns-then-count-eq0-clause-says : goal.returns-then-count-eq0-clause-says
returns-then-count-eq0-clause-says g c =
    says_until _ c.loop-rest.rest.now c.write-count.result _ _ _ _ _ _ c.loop-rest.invariant.wrote c.if-count-eq0.true
    c.write-count.ensures.taken c.loop-rest.invariant.since c.write-count.ensures.writes

pub returns-clause-says : goal.returns-clause-says
returns-clause-says g c = says_all _ _ _ _ _ _ c.loop-rest.invariant.wrote
    (nil_from_length c.loop-rest.rest.now (search rules))
