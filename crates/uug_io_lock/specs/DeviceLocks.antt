-- The lock file of a device, in the form of Taylor UUCP and HDB (this project's profile).
use Rattle.std.specs.Fmt.{decimal}
use Rattle.std.specs.Prelude.{ℕ, ◌-◌, ◌==◌, Bool, true, false, not, List, [], ◌∷◌, ◌++◌, length, replicate, codes, Option, Some, None, if◌then◌else◌}
use Rattle.std.specs.Option.{option_map_or}
use Rattle.std.specs.Path.{rsplit_once}
use Rattle.uug_talk.specs.Lines.{ended, lines}
use Rattle.uug_talk.specs.Number.{number_of}
use Rattle.uug_talk.specs.Words.{words}
use Rattle.uug_talk.specs.declared.call.TheConstants.{NUMBER_MAX}
use Rattle.uug_io_lock.specs.declared.holder.Holder.{Holder}
use Rattle.uug_io_lock.specs.declared.holder.Holder.TheVariants.{Process, Nobody, Unknown}

-- ---- its name

abbrev pub slash : ℕ
slash = 47

-- the name of a device: the part of its path after the last slash
abbrev pub device_name : (path : List ℕ) → List ℕ
device_name path = option_map_or (λ parts. parts.1) (rsplit_once slash path) path

abbrev pub lock_named : (folder name : List ℕ) → List ℕ
lock_named folder name = folder ++ (codes "/LCK.." ++ name)

-- a file in the folder of the locks, named after the device
abbrev pub lock_path : (folder device : List ℕ) → List ℕ
lock_path folder device = lock_named folder (device_name device)

-- ---- its text

-- the word, right-aligned in a column of this width
abbrev pub at_right : (width : ℕ) → (word : List ℕ) → List ℕ
at_right width word = replicate (width - length word) 32 ++ word

-- the number of the process that holds it, in ten columns, as a line
abbrev pub lock_text : (process : ℕ) → List ℕ
lock_text process = ended (at_right 10 (decimal process))

-- ---- who holds it

abbrev pub holder_by : (number : Option ℕ) → Holder
holder_by None = Unknown
holder_by (Some number) = if number == 0 then Nobody else Process number

abbrev pub holder_of_words : List (List ℕ) → Holder
holder_of_words [] = Nobody
holder_of_words (word ∷ more) = holder_by (number_of NUMBER_MAX word)

abbrev pub holder_of_lines : List (List ℕ) → Holder
holder_of_lines [] = Nobody
holder_of_lines (line ∷ more) = holder_of_words (words line)

-- the process whose number is the first word of the first line; nobody if there is no word, or if the number is 0
abbrev pub holder_in : (text : List ℕ) → Holder
holder_in text = holder_of_lines (lines text)

-- A process that is gone holds no lock. A lock that can't be read may be anybody's, so it counts as held.
abbrev pub is_held : Holder → (is_gone : Bool) → Bool
is_held (Process number) is_gone = not is_gone
is_held Nobody is_gone = false
is_held Unknown is_gone = true
