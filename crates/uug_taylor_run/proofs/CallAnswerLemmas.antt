-- What a call answers, by the answer of its session and the first failed call of the system.
use Rattle.std.proofs.Common.{◌≡◌, ◌≤◌, ℕ, List, Option, Some, None, Result, Ok, Err, refl, subst, sym}
use Rattle.std.specs.Prelude.{IfErr, IfOk, IsSome}
use Rattle.uug_error.specs.Faults.{IsSessionFault}
use Rattle.uug_error.specs.Outcomes.{ended_of}
use Rattle.uug_error.specs.declared.failure.SystemFailure.{SystemFailure}
use Rattle.uug_error.specs.declared.outcome.Ended.{Ended}
use Rattle.uug_error.specs.declared.run_fault.RunFault.{RunFault}
use Rattle.uug_error.specs.declared.run_fault.RunFault.TheVariants.{System, Tool}
use Rattle.uug_taylor_run.specs.CallAnswers.{AnswersCall, status_of}
use Rattle.uug_stream.specs.Streams.{CountsFault}
use Rattle.uug_stream.specs.declared.fault.ToolFault.{ToolFault}
use Rattle.uug_stream.specs.declared.fault.ToolFault.TheVariants as faults
use Rattle.uug_transfer.specs.EndOver.{IsEndFault}

-- a session answers this, and behind a device fault a call of the system has failed
pub record AnswersSession (P : ℕ → Option (List ℕ) → Option (List ℕ) → Type 0) (answer : Result ℕ ToolFault) (failure : Option SystemFailure)
    (w v : Option (List ℕ)) (f g : ℕ) : Type 0 where
  pub status : IfOk answer (λ (n : ℕ). n ≤ 1)
  pub reported : IfOk answer (λ (n : ℕ). P n w v)
  pub write : answer ≡ Err faults.Write → CountsFault f g
  pub no_other : IfErr answer IsEndFault
  pub named : answer ≡ Err faults.Device → IsSome failure

given_up : (P : ℕ → Option (List ℕ) → Option (List ℕ) → Type 0) (fault : RunFault) (w v : Option (List ℕ)) (f g : ℕ) → IsSessionFault fault
    → (fault ≡ Tool faults.Write → CountsFault f g) → AnswersCall IsSessionFault P (Err fault) w v f g
given_up P fault w v f g is write = record {
  status = tt;
  reported = tt;
  write = λ e. write (cc e);
  no_other = is;
}

answers_of : (P : ℕ → Option (List ℕ) → Option (List ℕ) → Type 0) (answer : Result ℕ ToolFault) (failure : Option SystemFailure)
    (w v : Option (List ℕ)) (f g : ℕ) → AnswersSession P answer failure w v f g
    → AnswersCall IsSessionFault P (status_of (ended_of answer failure)) w v f g
answers_of P (Ok n) failure w v f g a = record {
  status = a.status;
  reported = a.reported;
  write = λ e. absurd (cc e);
  no_other = tt;
}
answers_of P (Err faults.Write) failure w v f g a = given_up P (Tool faults.Write) w v f g tt (λ e. a.write refl)
answers_of P (Err faults.Memory) failure w v f g a = given_up P (Tool faults.Memory) w v f g tt (λ e. absurd (cc e))
answers_of P (Err faults.Device) (Some first) w v f g a = given_up P (System first) w v f g tt (λ e. absurd (cc e))
answers_of P (Err faults.Device) None w v f g a = absurd (cc (a.named refl))
answers_of P (Err faults.Usage) failure w v f g a = absurd a.no_other
answers_of P (Err faults.Read) failure w v f g a = absurd a.no_other
answers_of P (Err (faults.Script line)) failure w v f g a = absurd a.no_other
answers_of P (Err (faults.Jobs line)) failure w v f g a = absurd a.no_other

pub ended_answers : (P : ℕ → Option (List ℕ) → Option (List ℕ) → Type 0) (answer : Result ℕ ToolFault) (failure : Option SystemFailure)
    (ended : Result Ended RunFault) (w v : Option (List ℕ)) (f g : ℕ) → ended ≡ ended_of answer failure → AnswersSession P answer failure w v f g
    → AnswersCall IsSessionFault P (status_of ended) w v f g
ended_answers P answer failure ended w v f g is a =
    subst (λ (e : Result Ended RunFault). AnswersCall IsSessionFault P (status_of e) w v f g) (sym is) (answers_of P answer failure w v f g a)
