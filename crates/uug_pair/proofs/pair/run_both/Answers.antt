use Rattle.std.proofs.Common.{refl}
use Rattle.uug_pair.proofs.GoneJobsLemmas.{gone_done, none_struck}
use Rattle.uug_transfer.proofs.ReportedLemmas.{led_run}
use Rattle.uug_pair.proofs.pair.run_both.Goals as goal

pub returns-clause-caller_ran : goal.returns-clause-caller_ran
returns-clause-caller_ran g c =
    led_run _ _ _ _ c.in-Ok.ensures.holdings c.in-Ok.ensures.ran c.run_ends-answer.ensures.caller_led

pub returns-clause-called_ran : goal.returns-clause-called_ran
returns-clause-called_ran g c =
    led_run _ _ _ _ c.in-Ok-begin.ensures.holdings c.in-Ok-begin.ensures.ran c.run_ends-answer.ensures.called_led

pub returns-clause-gone_jobs : goal.returns-clause-gone_jobs
returns-clause-gone_jobs g c = gone_done c.the_file_of_a_job_that_is_gone_was_kept.ensures _ _ _ _ _ _
    c.in-Ok.ensures.sound c.in-Ok-begin.ensures.sound refl refl refl
    (none_struck _ _ c.args.parts.caller_read) (none_struck _ _ c.args.parts.called_read)
    (led_run _ _ _ _ c.in-Ok.ensures.holdings c.in-Ok.ensures.ran c.run_ends-answer.ensures.caller_led)
    (led_run _ _ _ _ c.in-Ok-begin.ensures.holdings c.in-Ok-begin.ensures.ran c.run_ends-answer.ensures.called_led)
