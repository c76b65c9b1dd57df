-- Numbers that bytes hold.
use Rattle.std.specs.Prelude.{ℕ, ◌<◌, List, slice_index}

-- each number is one of a byte
abbrev pub AreBytes : List ℕ → Type 0
AreBytes s = (i : ℕ) → slice_index s i < 256
