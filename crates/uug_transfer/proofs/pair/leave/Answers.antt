use Rattle.std.proofs.Common.{ℕ, inl, inr}
use Rattle.uug_transfer.proofs.EndLemmas.{left_on, not_printed_of_both, number_then, planned_then}
use Rattle.uug_transfer.proofs.pair.leave.Goals as goal

pub returns-in-Err-clause-report : goal.returns-in-Err-clause-report
returns-in-Err-clause-report g c =
    not_printed_of_both ℕ _ _ _ _ _ _ _ _ _ c.in-Err.ensures.fault (elim [ inl failed ↦ inl (inl failed) | inr failed ↦ inr (inl failed) ])

pub returns-in-Ok-clause-files : goal.returns-in-Ok-clause-files
returns-in-Ok-clause-files g c = left_on c.write.result _ _ _ (
  record {
    jobs = planned_then c.in-Ok.plan.caller.jobs _ _ _ _ _ _ _ c.new.ensures.caller_text c.in-Ok.ensures.caller c.write.ensures.caller
        c.write.ensures.caller_grows;
    number = number_then g.N.TextFile.text g.N.TextFile.fault_count _ _ _ _ _ c.new.ensures.caller_number c.in-Ok.ensures.caller_keeps
        c.write.ensures.caller_number;
  },
  record {
    jobs = planned_then c.in-Ok.plan.called.jobs _ _ _ _ _ _ _ c.new.ensures.called_text c.in-Ok.ensures.called c.write.ensures.called
        c.write.ensures.called_grows;
    number = number_then g.N.TextFile.text g.N.TextFile.fault_count _ _ _ _ _ c.new.ensures.called_number c.in-Ok.ensures.called_keeps
        c.write.ensures.called_number;
  },
)
