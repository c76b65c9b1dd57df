-- The answer of a run after its session (this project's profile).
use Rattle.std.specs.Prelude.{◌==◌, ℕ, Bool, Option, Some, None, Result, Ok, Err, if◌then◌else◌}
use Rattle.uug_error.specs.declared.failure.SystemFailure.{SystemFailure}
use Rattle.uug_error.specs.declared.outcome.Ended.{Ended}
use Rattle.uug_error.specs.declared.run_fault.RunFault.{RunFault}
use Rattle.uug_stream.specs.declared.fault.ToolFault.{ToolFault}

-- the status is 1 if the session counts as not done because of failed jobs
abbrev pub answer_with : (has_failed : Bool) → Result ℕ ToolFault → Result ℕ ToolFault
answer_with has_failed (Ok status) = Ok (if has_failed then 1 else status)
answer_with has_failed (Err fault) = Err fault

abbrev pub either : (first second : Option SystemFailure) → Option SystemFailure
either (Some failure) second = Some failure
either None second = second

-- the failed system call that is the reason why a session is not done: on the files of the end, or else on its line
abbrev pub failure_to_tell : Result Ended RunFault → (line : Option SystemFailure) → Option SystemFailure
failure_to_tell (Ok ended) line = if ended.status == 1 then either ended.failure line else None
failure_to_tell (Err fault) line = None
