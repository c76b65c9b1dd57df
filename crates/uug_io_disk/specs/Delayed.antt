-- Which files in a folder may be given later (this project's profile).
use Rattle.std.specs.Prelude.{ℕ, Bool, true, false, List, [], ◌∷◌, ◌++◌}

-- the names of these files, and of one more that can't be read now if the cause may pass
abbrev pub with_delayed : (may_pass : Bool) → (name : List ℕ) → (names : List (List ℕ)) → List (List ℕ)
with_delayed true name names = names ++ name ∷ []
with_delayed false name names = names
