-- What only a lenient end reads, and how it refuses a command that it can't read (this project's profile; SN8, the M behind a mode and
-- the letters of the refusals are those of the Taylor UUCP manual, "UUCP Protocol").
use Rattle.std.specs.Prelude.{◌&&◌, ℕ, Bool, true, false, List, [], ◌∷◌, nat_eq, nat_le, codes, Option, Some, None, Result, Ok, Err, if◌then◌else◌}
use Rattle.std.specs.Io.BufRead.{strip_last}
use Rattle.std.specs.List.{starts_with}
use Rattle.uug_talk.specs.declared.answer.Answer.{Answer}
use Rattle.uug_talk.specs.declared.answer.Answer.TheVariants.{GiveYes}
use Rattle.uug_talk.specs.declared.error.BadText.{BadText}
use Rattle.uug_talk.specs.declared.error.BadText.TheVariants as fault
use Rattle.uug_talk.specs.Mode.{mode_read}
use Rattle.uug_talk.specs.Refusal.{◌>>=◌}
use Rattle.uug_talk.specs.Words.{words}

-- ---- SN8: the other end has the file already

abbrev pub is_held_words : List (List ℕ) → Bool
is_held_words [] = false
is_held_words (first ∷ more) = starts_with nat_eq first (codes "SN8")

abbrev pub is_held : List ℕ → Bool
is_held text = is_held_words (words text)

-- ---- `RY 0644M`: the file comes, and the giving end wants to be master

abbrev pub wished_words : List (List ℕ) → Result Answer BadText
wished_words (first ∷ word ∷ more) = mode_read (strip_last 77 word) >>= (λ mode. Ok (GiveYes mode))
wished_words _ = Err fault.Mode

-- the answer to R, by what `read_answer` reads: where that refuses the mode, it is read without an M at its end
abbrev pub or_wished : Result Answer BadText → (lenient : Bool) → (text : List ℕ) → Result Answer BadText
or_wished (Err fault.Mode) true text = wished_words (words text)
or_wished read lenient text = read

-- ---- refusals

-- A command is one capital letter. H can always be read; and to say HN would exchange the roles.
abbrev pub is_refusable : (letter : ℕ) → Bool
is_refusable letter = nat_le 65 letter && nat_le letter 90 && (if nat_eq letter 72 then false else true)

abbrev pub refused_letter_of_words : List (List ℕ) → Option ℕ
refused_letter_of_words ((letter ∷ []) ∷ more) = if is_refusable letter then Some letter else None
refused_letter_of_words _ = None

abbrev pub refused_letter_of : List ℕ → Option ℕ
refused_letter_of text = refused_letter_of_words (words text)

-- a refusal for ever: the command's own letter, and N2 behind it
abbrev pub refusal_text : (letter : ℕ) → List ℕ
refusal_text letter = letter ∷ codes "N2"
