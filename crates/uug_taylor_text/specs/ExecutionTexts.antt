-- The execution file of a command that is run with data (lines as Taylor UUCP 1.07 reads them; their order, and that
-- the names are made from those of the data, is this project's profile).
use Rattle.std.specs.Prelude.{ℕ, List, [], ◌∷◌, ◌++◌, drop, codes, nat_eq, Option, None, if◌then◌else◌}
use Rattle.std.specs.List.{starts_with}
use Rattle.uug_talk.specs.Lines.{ended}
use Rattle.uug_talk.specs.Name.{name_of}
use Rattle.uug_taylor_text.specs.CommandLines.{FieldWords, FileWords, has_option}

-- ---- its names

-- the name of data, with these letters in place of its D.
abbrev pub renamed_data : (letters name : List ℕ) → Option (List ℕ)
renamed_data letters name = if starts_with nat_eq name (codes "D.") then name_of (letters ++ drop 2 name) else None

-- its name at the other system: that of the data there, with an X in place of the D
abbrev pub execution_target : List ℕ → Option (List ℕ)
execution_target target = renamed_data (codes "X.") target

-- the name under which it is sent: that of the data, with D.X in place of the D.
abbrev pub execution_temp : List ℕ → Option (List ℕ)
execution_temp temp = renamed_data (codes "D.X") temp

-- ---- its text

-- each word with a space in front
abbrev pub spaced : List (List ℕ) → List ℕ
spaced [] = []
spaced (word ∷ more) = 32 ∷ word ++ spaced more

-- the line of a letter, if that is among the options
abbrev pub flag_line : (letter : ℕ) → (options : List ℕ) → List ℕ
flag_line letter options = if has_option letter options then letter ∷ 10 ∷ [] else []

-- the line of the requestor, if there is an option R and NOTIFY is not empty
abbrev pub requestor_line : (options notify : List ℕ) → List ℕ
requestor_line options [] = []
requestor_line options (b ∷ bs) = if has_option 82 options then ended (codes "R " ++ b ∷ bs) else []

abbrev pub option_lines : (options notify : List ℕ) → List ℕ
option_lines options notify =
    flag_line 78 options ++ flag_line 90 options ++ requestor_line options notify ++ flag_line 101 options

abbrev pub execution_text : (node : List ℕ) → FieldWords → FileWords → (command : List (List ℕ)) → List ℕ
execution_text node f w command =
    ended (codes "U" ++ spaced (f.user ∷ node ∷ []))
    ++ ended (codes "F " ++ f.target) ++ ended (codes "I " ++ f.target)
    ++ option_lines f.options w.notify
    ++ ended (codes "C" ++ spaced command)
