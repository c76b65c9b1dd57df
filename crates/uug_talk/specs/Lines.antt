-- The lines of a text (this project's profile): each ends with a line feed, which the last one may lack.
use Rattle.std.specs.Prelude.{◌==◌, ℕ, Bool, List, [], ◌∷◌, ◌++◌, codes, nat_eq}
use Rattle.std.specs.List.{slice_split, starts_with}

abbrev pub is_line_feed : ℕ → Bool
is_line_feed b = b == 10

-- what stands behind the last line feed is a line only where something stands there
abbrev pub without_empty_last : List (List ℕ) → List (List ℕ)
without_empty_last [] = []
without_empty_last ([] ∷ []) = []
without_empty_last ((b ∷ bs) ∷ []) = (b ∷ bs) ∷ []
without_empty_last (line ∷ next ∷ more) = line ∷ without_empty_last (next ∷ more)

abbrev pub lines : List ℕ → List (List ℕ)
lines text = without_empty_last (slice_split is_line_feed text)

-- a line feed ends each line that is written
abbrev pub ended : List ℕ → List ℕ
ended text = text ++ 10 ∷ []

-- a line whose first word begins so is a comment
abbrev pub is_comment : List ℕ → Bool
is_comment word = starts_with nat_eq word (codes "#")
