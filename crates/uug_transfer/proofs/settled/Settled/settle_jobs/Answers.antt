use Rattle.std.proofs.Common.{ap, inl, length, refl, ◌∙◌}
use Rattle.uug_store.proofs.OpenJobsLemmas.{tells_none}
use Rattle.uug_transfer.proofs.ListeningLemmas.{on_err}
use Rattle.uug_transfer.proofs.SettlingLemmas.{none_is_settled, none_is_told}
use Rattle.uug_transfer.proofs.settled.Settled.settle_jobs.Goals as goal

pub returns-then-self-failed_len-clause-ok : goal.returns-then-self-failed_len-clause-ok
returns-then-self-failed_len-clause-ok g c =
    none_is_settled c.args.self.now c.args.queue.now _ (c.if-self-struck_len.true ∙ ap length c.struck-struck_len.ensures)
    (c.if-self-failed_len.true ∙ ap length c.failed-failed_len.ensures)

pub returns-then-self-failed_len-clause-told : goal.returns-then-self-failed_len-clause-told
returns-then-self-failed_len-clause-told g c =
    none_is_told (g.S.Spool.holdings c.args.spool.now) c.args.self.now.failed c.args.queue.now.failed _
    (c.if-self-failed_len.true ∙ ap length c.failed-failed_len.ensures)

pub returns-in_err-notices-clause-err : goal.returns-in_err-notices-clause-err
returns-in_err-notices-clause-err g c = on_err c.from_residual.result _ (inl (refl, tells_none _ _ _ refl))
