-- The outcome of a session (this project's profile).
use Rattle.std.specs.Prelude.{ℕ, Option, Result, Ok, Err}
use Rattle.uug_stream.specs.declared.fault.ToolFault.{ToolFault}
use Rattle.uug_error.specs.Failures.{fault_with}
use Rattle.uug_error.specs.declared.failure.SystemFailure.{SystemFailure}
use Rattle.uug_error.specs.declared.outcome.Ended.{Ended}
use Rattle.uug_error.specs.declared.run_fault.RunFault.{RunFault}

-- by the session's answer, and the first failed system call on the files of the end
abbrev pub ended_of : Result ℕ ToolFault → (failure : Option SystemFailure) → Result Ended RunFault
ended_of (Ok status) failure = Ok (record { status = status; failure = failure })
ended_of (Err fault) failure = Err (fault_with fault failure)
