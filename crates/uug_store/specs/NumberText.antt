-- The number of an end's conversations in a file of its folder (this project's profile).
use Rattle.std.specs.Prelude.{◌≡◌, ◌⊎◌, ◌==◌, ℕ, Bool, true, false, List, [], ◌∷◌, Option, Some, None, Result, Ok, Err}
use Rattle.std.specs.Fmt.{decimal}
use Rattle.uug_session.specs.Greeting.{next_number}
use Rattle.uug_talk.specs.Number.{number_of}
use Rattle.uug_talk.specs.declared.call.TheConstants.{NUMBER_MAX}
use Rattle.uug_talk.specs.Lines.{lines, ended}
use Rattle.uug_store.specs.TextFiles.{holding}
use Rattle.uug_store.specs.declared.number_text.BadNumber.{BadNumber}

-- ---- the text

-- its decimal digits, as a line
abbrev pub number_line : ℕ → List ℕ
number_line number = ended (decimal number)

abbrev pub number_of_lines : List (List ℕ) → Option ℕ
number_of_lines [] = None
number_of_lines (line ∷ []) = number_of NUMBER_MAX line
number_of_lines (line ∷ next ∷ more) = None

-- the number of a text that is one line
abbrev pub number_in : List ℕ → Option ℕ
number_in text = number_of_lines (lines text)

-- ---- what an end keeps

-- the end continues with the number in its file; a file without one is an error
abbrev pub goes_on_with : Option ℕ → Result (Option ℕ) BadNumber
goes_on_with (Some number) = Ok (Some number)
goes_on_with None = Err (record {})

-- without a file the end keeps no number, unless it is told to: then it begins at 0
abbrev pub begins_with : (is_told : Bool) → Result (Option ℕ) BadNumber
begins_with true = Ok (Some 0)
begins_with false = Ok None

-- the text that its file then has, if the file exposes it: the line of the number, or the old text if the end keeps
-- none
abbrev pub holding_number : (number : Option ℕ) (before : Option (List ℕ)) → Option (List ℕ)
holding_number None before = before
holding_number (Some number) before = holding (number_line number) before

-- its file has the number, if the end keeps one and the file exposes its text
abbrev pub HoldsNumber : (number : Option ℕ) (text : Option (List ℕ)) → Type 0
HoldsNumber number text = holding_number number text ≡ text

-- its file is as before, or has the complete line of its number
abbrev pub IsNumberKept : (number : Option ℕ) (before after : Option (List ℕ)) → Type 0
IsNumberKept number before after = (after ≡ before) ⊎ (after ≡ holding_number number before)

-- ---- a caller whose number is one less

abbrev pub beside_by : (is_before : Bool) (own said : ℕ) → Option ℕ
beside_by true own said = Some said
beside_by false own said = Some own

-- The number with which a called end begins a session: its own, or the one before it if the caller sends that. In that
-- case it rises to the end's own again when the caller is let in.
abbrev pub number_beside : (own said : Option ℕ) → Option ℕ
number_beside None said = None
number_beside (Some own) None = Some own
number_beside (Some own) (Some said) = beside_by (next_number said == own) own said
