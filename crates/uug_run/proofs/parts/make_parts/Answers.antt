use Rattle.std.proofs.Common.{take, sym, ap, subst, ◌∙◌}
use Rattle.uug_store.specs.JobsText.{IsFrontOf}
use Rattle.uug_run.proofs.FrontLemmas.{first_are_front}
use Rattle.uug_run.proofs.parts.make_parts.Goals as goal

pub returns-clause-queue : goal.returns-clause-queue
returns-clause-queue g c =
    subst (IsFrontOf c.args.jobs.file.before.items) (sym c.queue.view_is)
    (first_are_front c.args.jobs.file.before.items c.args.jobs.queue c.in_ok-queue.queue c.args.given.offered c.args.jobs.read c.requires.some
    (c.in_ok-queue.ensures.jobs ∙ ap (take c.args.given.offered) c.pending.ensures.jobs) c.in_ok-queue.ensures.fresh)
