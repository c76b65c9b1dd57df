-- The names under which no file can be put in a folder on disk (this project's profile).
use Rattle.std.specs.Prelude.{ℕ, Bool, true, List, length, nat_le, if◌then◌else◌}
use Rattle.uug_conversation.specs.MemoryHoldings.{has_name}

-- the names of folders there, and names that are longer than the longest that the system takes
abbrev pub barred_by : (folders : List (List ℕ)) → (longest : ℕ) → List ℕ → Bool
barred_by folders longest name = if nat_le (length name) longest then has_name folders name else true
