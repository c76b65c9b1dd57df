-- How many bytes and silences an end accepts at its line (this project's profile).
use Rattle.std.specs.Prelude.{ℕ, zero, suc, ◌+◌, ◌*◌, ◌-◌, ◌<◌}
use Rattle.uug_transfer.specs.declared.read_outcome.ReadOutcome.{ReadOutcome}
use Rattle.uug_transfer.specs.declared.read_outcome.ReadOutcome.TheVariants.{Bytes, TimedOut, Eof}
use Rattle.uug_transfer.specs.declared.read_budget.TheConstants.{SILENCES_MAX, STALLS_MAX}

-- the number of bytes left to read
abbrev pub bytes_left : (left : ℕ) → ReadOutcome → ℕ
bytes_left left (Bytes n) = left - n
bytes_left left TimedOut = left
bytes_left left Eof = 0

-- the number of silent reads in a row that are left
abbrev pub silences_left : (left : ℕ) → ReadOutcome → ℕ
silences_left left (Bytes n) = SILENCES_MAX
silences_left left TimedOut = left - 1
silences_left left Eof = left

-- the number of writes in a row that may still take nothing, after one that took `count` bytes
abbrev pub stalls_left : (left count : ℕ) → ℕ
stalls_left left zero = left - 1
stalls_left left (suc n) = STALLS_MAX

-- some of both is left
pub record Lasts (bytes silences : ℕ) : Type 0 where
  pub reads : 0 < bytes
  pub waits : 0 < silences

-- the maximum number of turns left, since each uses up a byte or a silence
abbrev pub turns_left : (bytes silences : ℕ) → ℕ
turns_left bytes silences = bytes * (SILENCES_MAX + 1) + silences
