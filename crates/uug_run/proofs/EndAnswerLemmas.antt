-- What a run answers behind its session, by what the session has come to.
use Rattle.std.proofs.Common.{◌≡◌, ℕ, Bool, true, false, List, Option, Result, Ok, Err, refl, subst, sym, lit≤}
use Rattle.uug_conversation.specs.declared.side.Side.{Side}
use Rattle.uug_error.specs.Faults.{IsSessionFault}
use Rattle.uug_error.specs.Outcomes.{ended_of}
use Rattle.uug_error.specs.declared.failure.SystemFailure.{SystemFailure}
use Rattle.uug_error.specs.declared.outcome.Ended.{Ended}
use Rattle.uug_error.specs.declared.run_fault.RunFault.{RunFault}
use Rattle.uug_taylor_run.proofs.CallAnswerLemmas.{AnswersSession, ended_answers}
use Rattle.uug_taylor_run.specs.CallAnswers.{AnswersCall, status_of}
use Rattle.uug_stream.specs.declared.fault.ToolFault.{ToolFault}
use Rattle.uug_run.specs.EndAnswers.{answer_with}
use Rattle.uug_transfer.specs.Reported.{IsReported}

-- the report of an end is printed, and its status is told, or 1 where what has failed counts
session_with : (has_failed : Bool) (side : Side) (answer : Result ℕ ToolFault) (failure : Option SystemFailure) (w v : Option (List ℕ)) (f g : ℕ)
    → AnswersSession (IsReported side) answer failure w v f g → AnswersSession (IsReported side) (answer_with has_failed answer) failure w v f g
session_with true side (Ok status) failure w v f g a = record {
  status = lit≤ tt;
  reported = record {
    end = a.reported.end;
    holdings = a.reported.holdings;
    kept = a.reported.kept;
    ran = a.reported.ran;
    over = a.reported.over;
    is_left = true;
    is_status = refl;
    printed = a.reported.printed;
  };
  write = λ e. absurd (cc e);
  no_other = tt;
  named = λ e. absurd (cc e);
}
session_with false side (Ok status) failure w v f g a = a
session_with has_failed side (Err fault) failure w v f g a = a

pub with_answers : (has_failed : Bool) (side : Side) (answer x : Result ℕ ToolFault) (failure : Option SystemFailure)
    (ended : Result Ended RunFault) (w v : Option (List ℕ)) (f g : ℕ) → x ≡ answer_with has_failed answer → ended ≡ ended_of x failure
    → AnswersSession (IsReported side) answer failure w v f g → AnswersCall IsSessionFault (IsReported side) (status_of ended) w v f g
with_answers has_failed side answer x failure ended w v f g is ends a =
    ended_answers (IsReported side) x failure ended w v f g ends
    (subst (λ (r : Result ℕ ToolFault). AnswersSession (IsReported side) r failure w v f g) (sym is)
    (session_with has_failed side answer failure w v f g a))
