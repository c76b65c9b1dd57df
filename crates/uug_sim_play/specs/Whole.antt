-- Reading an input to its end (this project's profile).
use Rattle.std.specs.Prelude.{◌≡◌, ℕ, List, [], ◌++◌, Option, Some, None, ⊤}
use Rattle.uug_stream.specs.declared.fault.ToolFault.{ToolFault}
use Rattle.uug_stream.specs.declared.fault.ToolFault.TheVariants as faults

-- where an input tells its bytes, these came first, and the others are still to come
abbrev pub Brings : List ℕ → Option (List ℕ) → Option (List ℕ) → Type 0
Brings bytes None after = ⊤
Brings bytes (Some before) after = (rest : List ℕ) × (after ≡ Some rest) × (before ≡ bytes ++ rest)

-- these are all that were to come
abbrev pub BringsAll : List ℕ → Option (List ℕ) → Option (List ℕ) → Type 0
BringsAll bytes None after = ⊤
BringsAll bytes (Some before) after = (before ≡ bytes) × (after ≡ Some [])

-- the faults of reading: the input's, and memory
abbrev pub IsReadingFault : ToolFault → Type 0
IsReadingFault faults.Read = ⊤
IsReadingFault faults.Memory = ⊤
IsReadingFault faults.Device = ⊤
IsReadingFault _ = ⊥
