use Rattle.std.proofs.Common.{sym, ◌∙◌}
use Rattle.uug_conversation.proofs.ChoiceLemmas.{is_offered}
use Rattle.uug_conversation.proofs.choice.choose.Goals as goal

pub returns-in-Some-offer-clause-next : goal.returns-in-Some-offer-clause-next
returns-in-Some-offer-clause-next g c =
    sym (is_offered (g.S.Spool.holdings c.args.spool.now) c.loop-job.queue c.in-Some.job.now c.in-Some-offer.order c.in-Some.ensures
    (sym c.offer.ensures ∙ c.in-Some-offer.is)).0
    ∙ c.loop-job.invariant.next

pub returns-in-Some-offer-clause-lists : goal.returns-in-Some-offer-clause-lists
returns-in-Some-offer-clause-lists g c =
    sym (is_offered (g.S.Spool.holdings c.args.spool.now) c.loop-job.queue c.in-Some.job.now c.in-Some-offer.order c.in-Some.ensures
    (sym c.offer.ensures ∙ c.in-Some-offer.is)).1
    ∙ c.loop-job.invariant.lists
