use Rattle.std.proofs.Common.{sym, ◌∙◌, arith}
use Rattle.uug_store.proofs.JobsAfterLemmas.{at_first, found, none_found, one_behind}
use Rattle.uug_store.proofs.meanwhile.place_of.Goals as goal

pub loop-i-init : goal.loop-i-init
loop-i-init c = at_first c.args.job.now c.args.jobs.now

pub returns-then-is_job-clause-first : goal.returns-then-is_job-clause-first
returns-then-is_job-clause-first c =
    found c.args.job.now c.index-jobs-i.result c.args.jobs.now c.loop-i.i c.loop-i-test.true c.index-jobs-i.is
    (sym c.is_job.ensures ∙ c.if-is_job.true) c.loop-i.invariant

pub loop-i-preserved : goal.loop-i-preserved
loop-i-preserved c =
    one_behind c.args.job.now c.index-jobs-i.result c.args.jobs.now c.loop-i.i c.loop-i-test.true c.index-jobs-i.is
    (sym c.is_job.ensures ∙ c.if-is_job.false) c.loop-i.invariant

pub returns-clause-first : goal.returns-clause-first
returns-clause-first c = none_found c.args.job.now c.args.jobs.now c.loop-i.i (omega (arith, c.loop-i-test.false)) c.loop-i.invariant
