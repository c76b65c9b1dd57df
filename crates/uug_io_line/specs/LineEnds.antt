-- Results of the calls of a line whose port may fail: a failure is the end of the line (this project's profile).
use Rattle.std.specs.Prelude.{ℕ, Bool, true, false, Result, Ok, Err}
use Rattle.uug_error.specs.declared.failure.Cause.{Cause}
use Rattle.uug_transfer.specs.declared.read_outcome.ReadOutcome.{ReadOutcome}
use Rattle.uug_transfer.specs.declared.read_outcome.ReadOutcome.TheVariants.{Bytes, TimedOut, Eof}

-- how many bytes of a piece a write has consumed: a failed write consumes all of them, and they are lost
abbrev pub taken_then : (size : ℕ) → Result ℕ Cause → ℕ
taken_then size (Ok count) = count
taken_then size (Err cause) = size

-- the outcome of a read. A failed read is the end of the line. Once the line is cut by a failed write, bytes that have
-- arrived are still read, but a timeout is the end
abbrev pub outcome_then : (cut : Bool) → Result ReadOutcome Cause → ReadOutcome
outcome_then cut (Err cause) = Eof
outcome_then cut (Ok (Bytes count)) = Bytes count
outcome_then cut (Ok Eof) = Eof
outcome_then true (Ok TimedOut) = Eof
outcome_then false (Ok TimedOut) = TimedOut
