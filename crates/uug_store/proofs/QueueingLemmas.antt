-- The last part of a path, and what is appended to a text of jobs.
use Rattle.std.proofs.Common.{◌≡◌, ℕ, true, false, List, [], ◌∷◌, drop, refl}
use Rattle.uug_store.specs.Queueing.{has_slash, last_part}

-- where a slash stands in a path, its last part stands behind its first byte
pub behind_first : (path : List ℕ) → has_slash path ≡ true → last_part path ≡ last_part (drop 1 path)
behind_first [] h = refl
behind_first (b ∷ bs) h = rw h refl

-- a path without a slash is its last part
pub all_of_it : (path : List ℕ) → has_slash path ≡ false → last_part path ≡ path
all_of_it [] h = refl
all_of_it (b ∷ bs) h = rw h refl
