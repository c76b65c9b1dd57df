-- Which lines of a log of Taylor UUCP's form are about one system (this project's profile).
use Rattle.std.specs.Prelude.{ℕ, Bool, false, List, [], ◌∷◌, ◌++◌, Option, Some, None, if◌then◌else◌}
use Rattle.std.specs.Str.{bytes_eq}
use Rattle.uug_talk.specs.Lines.{ended}
use Rattle.uug_talk.specs.Words.{words}

abbrev pub second_of : List (List ℕ) → Option (List ℕ)
second_of [] = None
second_of (first ∷ []) = None
second_of (first ∷ second ∷ more) = Some second

abbrev pub is_word : (system : List ℕ) → (word : Option (List ℕ)) → Bool
is_word system None = false
is_word system (Some word) = bytes_eq word system

-- PROGRAM SYSTEM, and more
abbrev pub is_about : (system line : List ℕ) → Bool
is_about system line = is_word system (second_of (words line))

abbrev pub line_about : (system line : List ℕ) → List ℕ
line_about system line = if is_about system line then ended line else []

abbrev pub lines_about : (system : List ℕ) → List (List ℕ) → List ℕ
lines_about system [] = []
lines_about system (line ∷ more) = line_about system line ++ lines_about system more
