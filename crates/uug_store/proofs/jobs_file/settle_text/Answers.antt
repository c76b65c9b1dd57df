use Rattle.std.proofs.Common.{◌∙◌}
use Rattle.uug_store.proofs.OpenJobsLemmas.{not_settled, on_err}
use Rattle.uug_store.proofs.jobs_file.settle_text.Goals as goal

pub returns-in_err-note_done-clause-err : goal.returns-in_err-note_done-clause-err
returns-in_err-note_done-clause-err g c =
    on_err c.from_residual-in_err-note_done.result _
    (not_settled _ _ _ _ _ _ (c.note_done.ensures.same ∙ c.read.ensures.same) (c.note_done.ensures.told_same ∙ c.read.ensures.told_same))
