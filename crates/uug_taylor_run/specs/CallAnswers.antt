-- Says what a call over the system answers, and what it has printed then (this project's profile).
use Rattle.std.specs.Prelude.{◌≡◌, ◌≤◌, ℕ, List, Option, Result, Ok, Err, IfErr, IfOk}
use Rattle.uug_error.specs.declared.outcome.Ended.{Ended}
use Rattle.uug_error.specs.declared.run_fault.RunFault.{RunFault}
use Rattle.uug_error.specs.declared.run_fault.RunFault.TheVariants.{Tool}
use Rattle.uug_stream.specs.Streams.{CountsFault}
use Rattle.uug_stream.specs.declared.fault.ToolFault.TheVariants.{Write}

-- the status of a session that was not given up
abbrev pub status_of : Result Ended RunFault → Result ℕ RunFault
status_of (Ok ended) = Ok ended.status
status_of (Err fault) = Err fault

-- What a call over the system answers, or a part of one: a status, with which is printed what `IsTold` says; or one of the faults
-- for which it may be given up (`IsFault`).
pub record AnswersCall (IsFault : RunFault → Type 0) (IsTold : (status : ℕ) → (written written_after : Option (List ℕ)) → Type 0)
    (answer : Result ℕ RunFault) (written written_after : Option (List ℕ)) (faults faults_after : ℕ) : Type 0 where
  -- the status is the program's: 0 or 1
  pub status : IfOk answer (λ status. status ≤ 1)
  -- with a status, what is to be printed is printed
  pub reported : IfOk answer (λ status. IsTold status written written_after)
  -- if a write was refused, the output has counted that
  pub write : answer ≡ Err (Tool Write) → CountsFault faults faults_after
  -- the fault is one of those
  pub no_other : IfErr answer IsFault
