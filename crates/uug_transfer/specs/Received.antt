-- The results of the reads of an end's line, and their limits (this project's profile).
use Rattle.std.specs.Prelude.{◌≡◌, ◌+◌, ◌<◌, ◌≤◌, ℕ, List, [], ◌∷◌, ◌++◌, Option, Some, None, take, length, ⊤}
use Rattle.uug_transfer.specs.declared.read_outcome.ReadOutcome.{ReadOutcome}
use Rattle.uug_transfer.specs.declared.read_outcome.ReadOutcome.TheVariants.{Bytes, TimedOut, Eof}

-- the result of a read: bytes, or nothing for as long as the line waits
pub data Received : Type 0 where
  piece : List ℕ → Received
  silence : Received

-- the result of a read with this outcome, whose bytes are at the front of the buffer; the line's end adds none
abbrev pub received_of : ReadOutcome → (buffer : List ℕ) → List Received
received_of (Bytes n) buffer = piece (take n buffer) ∷ []
received_of TimedOut buffer = silence ∷ []
received_of Eof buffer = []

-- the results of the reads with these added at the end, if the line exposes them
abbrev pub also_received : List Received → Option (List Received) → Option (List Received)
also_received more None = None
also_received more (Some rs) = Some (rs ++ more)

-- the total number of bytes that came
abbrev pub bytes_in : List Received → ℕ
bytes_in [] = 0
bytes_in (piece bytes ∷ rs) = length bytes + bytes_in rs
bytes_in (silence ∷ rs) = bytes_in rs

-- each silence directly follows fewer than `most` others; `waited` of them precede this list
abbrev pub WaitsWithin : (most waited : ℕ) → List Received → Type 0
WaitsWithin most waited [] = ⊤
WaitsWithin most waited (piece bytes ∷ rs) = WaitsWithin most 0 rs
WaitsWithin most waited (silence ∷ rs) = (waited < most) × WaitsWithin most (waited + 1) rs

-- if the line exposes the results of its reads: since then at most `bytes` bytes came, and at most `silences` silences
-- in a row
abbrev pub ReadsWithin : (bytes silences : ℕ) → (before after : Option (List Received)) → Type 0
ReadsWithin bytes silences None after = ⊤
ReadsWithin bytes silences (Some before) after =
    (since : List Received) × (after ≡ Some (before ++ since)) × (bytes_in since ≤ bytes) × WaitsWithin silences 0 since
