use Rattle.std.proofs.Common.{inl, inr}
use Rattle.uug_error.proofs.FaultLemmas.{has_faults}
use Rattle.uug_run.proofs.EndAnswerLemmas.{with_answers}
use Rattle.uug_run.proofs.call.talk_locked.Goals as goal

pub returns : goal.returns
returns g c =
    with_answers _ _ _ _ _ _ _ _ _ _ c.answer_with-answer.ensures c.of-2.ensures
    (record {
      status = c.in-Ok-run.ensures.status;
      reported = c.in-Ok-run.ensures.reported;
      write = c.in-Ok-run.ensures.write;
      no_other = c.in-Ok-run.ensures.no_other;
      named = λ is. elim (c.in-Ok-run.ensures.device is) [
        | inl jobs ↦ c.failure_of-failure.ensures.jobs (has_faults _ _ c.in-Ok.ensures.jobs_calm jobs)
        | inr number ↦ c.failure_of-failure.ensures.number (has_faults _ _ c.in-Ok.ensures.number_calm number)
      ];
    })
