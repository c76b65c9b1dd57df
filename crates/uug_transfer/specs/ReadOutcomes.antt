-- The outcome of a read at the line of one end, and its effect on the end (this project's profile).
use Rattle.std.specs.Io.KnownBytes.{Consumes, IsAtEnd, Keeps}
use Rattle.std.specs.Prelude.{◌≡◌, ◌<◌, ◌≤◌, ℕ, List, [], Option, take, ⊤}
use Rattle.uug_conversation.specs.Holdings.{Holdings, Kept}
use Rattle.uug_session.specs.Node.{NodeState}
use Rattle.uug_transfer.specs.BufferedNodes.{Hears, Waits}
use Rattle.uug_transfer.specs.declared.fault_injector.FaultInjector.{FaultInjector}
use Rattle.uug_transfer.specs.declared.read_outcome.ReadOutcome.{ReadOutcome}
use Rattle.uug_transfer.specs.declared.read_outcome.ReadOutcome.TheVariants.{Bytes, TimedOut, Eof}

-- if bytes were read, at least one was, and no more than there was room for
abbrev pub IsWithin : (room : ℕ) → ReadOutcome → Type 0
IsWithin room (Bytes n) = (0 < n) × (n ≤ room)
IsWithin room TimedOut = ⊤
IsWithin room Eof = ⊤

-- the bytes that were read, which are at the front of the buffer
abbrev pub outcome_bytes : ReadOutcome → (buffer : List ℕ) → List ℕ
outcome_bytes (Bytes n) buffer = take n buffer
outcome_bytes TimedOut buffer = []
outcome_bytes Eof buffer = []

-- What a read did at a stream whose bytes are known: it took the first of them, or it timed out and took none, or the
-- stream is at its end.
abbrev pub IsGiven : (to_come left : Option (List ℕ)) → (buffer : List ℕ) → ReadOutcome → Type 0
IsGiven to_come left buffer (Bytes n) = Consumes to_come left (take n buffer)
IsGiven to_come left buffer TimedOut = Keeps to_come left
IsGiven to_come left buffer Eof = IsAtEnd left

-- What an outcome does to the end: it handles the bytes, or a timeout if nothing came; the line's end changes nothing.
abbrev pub TakesOutcome : (h : Holdings) (kept kept_after : List Kept) (failure : Type 0) (outcome : ReadOutcome) (buffer : List ℕ)
    (injector injector_after : FaultInjector) (bytes bytes_after : List ℕ) (before after : NodeState) → Type 0
TakesOutcome h kept kept_after failure (Bytes n) buffer injector injector_after bytes bytes_after before after =
    Hears h kept kept_after failure (take n buffer) injector injector_after bytes bytes_after before after
TakesOutcome h kept kept_after failure TimedOut buffer injector injector_after bytes bytes_after before after =
    Waits injector injector_after bytes bytes_after before after × (kept_after ≡ kept)
TakesOutcome h kept kept_after failure Eof buffer injector injector_after bytes bytes_after before after =
    (after ≡ before) × (kept_after ≡ kept) × (injector_after ≡ injector) × (bytes_after ≡ bytes)
