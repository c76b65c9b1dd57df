-- What a read and a write do, at an input and an output that tell their bytes.
use Rattle.std.specs.Prelude.{◌≡◌, ℕ, ◌+◌, ◌<◌, ◌^◌, List, [], ◌++◌, take, Option, Some, None, IfSome, ⊤}

-- The n bytes at the front of the buffer are the first of those that were to come, and the others are still
-- to come. None was moved only where none was to come.
abbrev pub Moves : ℕ → List ℕ → Option (List ℕ) → Option (List ℕ) → Type 0
Moves n buffer None after = ⊤
Moves n buffer (Some before) after =
    (rest : List ℕ) × (after ≡ Some rest) × (before ≡ take n buffer ++ rest) × (n ≡ 0 → before ≡ [])

-- an input that tells its bytes was read to its end
abbrev pub ReadsAll : Option (List ℕ) → Option (List ℕ) → Type 0
ReadsAll before after = IfSome before (λ _. after ≡ Some [])

-- the piece is at the end of what was written before
abbrev pub Appends : List ℕ → Option (List ℕ) → Option (List ℕ) → Type 0
Appends piece None after = ⊤
Appends piece (Some before) after = after ≡ Some (before ++ piece)

-- a front of the piece was appended, or none of it
abbrev pub AppendsFront : List ℕ → Option (List ℕ) → Option (List ℕ) → Type 0
AppendsFront piece before after = (front rest : List ℕ) × (piece ≡ front ++ rest) × Appends front before after

-- a fault was counted: the count rose, unless it stood at its greatest value
abbrev pub CountsFault : ℕ → ℕ → Type 0
CountsFault before after = before + 1 < 2 ^ 64 → before < after
