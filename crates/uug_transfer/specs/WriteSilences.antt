-- The results of the writes of an end's line, and their limits (this project's profile).
use Rattle.std.specs.Prelude.{◌≡◌, ◌<◌, ℕ, zero, suc, List, [], ◌∷◌, ◌++◌, Option, Some, None, ⊤}

-- the numbers of bytes that the writes took with this one added at the end, if the line exposes them; 0 is a silence
abbrev pub also_wrote : ℕ → Option (List ℕ) → Option (List ℕ)
also_wrote n None = None
also_wrote n (Some counts) = Some (counts ++ n ∷ [])

-- each silence directly follows fewer than `most` others; `waited` of them precede this list
abbrev pub StallsWithin : (most waited : ℕ) → List ℕ → Type 0
StallsWithin most waited [] = ⊤
StallsWithin most waited (zero ∷ counts) = (waited < most) × StallsWithin most (suc waited) counts
StallsWithin most waited (suc n ∷ counts) = StallsWithin most 0 counts

-- the number of silences in a row at the end
abbrev pub stalled_after : (waited : ℕ) → List ℕ → ℕ
stalled_after waited [] = waited
stalled_after waited (zero ∷ counts) = stalled_after (suc waited) counts
stalled_after waited (suc n ∷ counts) = stalled_after 0 counts

-- if the line exposes the results of its writes: since then there were at most `silences` silences in a row
abbrev pub WritesWithin : (silences : ℕ) → (before after : Option (List ℕ)) → Type 0
WritesWithin silences None after = ⊤
WritesWithin silences (Some before) after =
    (since : List ℕ) × (after ≡ Some (before ++ since)) × StallsWithin silences 0 since

-- the same, and there are exactly `waited` silences in a row at the end
abbrev pub WritesUpTo : (silences waited : ℕ) → (before after : Option (List ℕ)) → Type 0
WritesUpTo silences waited None after = ⊤
WritesUpTo silences waited (Some before) after =
    (since : List ℕ) × (after ≡ Some (before ++ since)) × StallsWithin silences 0 since × (stalled_after 0 since ≡ waited)
