-- The text in which a caller says its name (Taylor UUCP manual, "UUCP Protocol": "Ssystem options", of which -Q tells a
-- sequence number), and the number of a conversation in it (which words tell one is this project's profile).
use Rattle.std.specs.Prelude.{◌&&◌, ℕ, List, [], ◌∷◌, ◌++◌, length, drop, codes, nat_eq, nat_le, Option, Some, None, if◌then◌else◌}
use Rattle.std.specs.Fmt.{decimal}
use Rattle.std.specs.List.{starts_with}
use Rattle.uug_talk.specs.Number.{number_of}
use Rattle.uug_talk.specs.Words.{words}
use Rattle.uug_talk.specs.declared.call.TheConstants.{NUMBER_DIGITS_MAX, NUMBER_MAX}

-- the word that tells a number
abbrev pub number_word : ℕ → List ℕ
number_word number = codes "-Q" ++ decimal number

-- a caller's text: S and its name, and behind a space the word of its number where it keeps one
abbrev pub call_text : (name : List ℕ) → Option ℕ → List ℕ
call_text name None = codes "S" ++ name
call_text name (Some number) = codes "S" ++ name ++ 32 ∷ number_word number

-- the number that a word tells: -Q, and one to ten decimal digits of at most 4294967295
abbrev pub number_told : List ℕ → Option ℕ
number_told word =
    if starts_with nat_eq word (codes "-Q") && nat_le (length (drop 2 word)) NUMBER_DIGITS_MAX
    then number_of NUMBER_MAX (drop 2 word) else None

-- the number that the first of the words tells that tells one
abbrev pub or_told : Option ℕ → Option ℕ → Option ℕ
or_told (Some number) others = Some number
or_told None others = others

unfoldable pub first_told : List (List ℕ) → Option ℕ
first_told [] = None
first_told (word ∷ others) = or_told (number_told word) (first_told others)

-- the number in a caller's text, among its words behind the name
abbrev pub number_in_call : List ℕ → Option ℕ
number_in_call text = first_told (drop 1 (words text))
