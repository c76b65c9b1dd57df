-- The words of a text (this project's profile): what stands between one or more spaces.
use Rattle.std.specs.Prelude.{◌==◌, ℕ, Bool, true, false, List, [], ◌∷◌, filter}
use Rattle.std.specs.List.{slice_split, join_with_byte}

abbrev pub is_space : ℕ → Bool
is_space b = b == 32

abbrev pub is_word : List ℕ → Bool
is_word [] = false
is_word (b ∷ bs) = true

-- the parts between the spaces, without the empty ones
abbrev pub words : List ℕ → List (List ℕ)
words text = filter is_word (slice_split is_space text)

-- the text that has these words, with one space between each two
abbrev pub joined : List (List ℕ) → List ℕ
joined ws = join_with_byte 32 ws
