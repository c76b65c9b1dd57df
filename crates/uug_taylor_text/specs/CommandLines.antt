-- The lines of a C. file (as Taylor UUCP 1.07 writes them; that words are separated by one or more spaces, which names
-- are refused, and that words after the last one needed are skipped, is this project's profile).
use Rattle.std.specs.Prelude.{◌==◌, ◌&&◌, ◌||◌, not, ℕ, Bool, List, [], ◌∷◌, codes, nat_eq, Result, Ok, Err, if◌then◌else◌}
use Rattle.std.specs.List.{list_any, starts_with}
use Rattle.std.specs.Str.{bytes_eq}
use Rattle.uug_talk.specs.Mode.{mode_read}
use Rattle.uug_talk.specs.Words.{words}
use Rattle.uug_talk.specs.declared.error.BadText.{BadText}
use Rattle.uug_taylor_text.specs.Quoting.{is_well_quoted, unquoted}
use Rattle.uug_taylor_text.specs.SpoolNames.{is_data_name}
use Rattle.uug_taylor_text.specs.declared.command.CommandFault.{CommandFault}
use Rattle.uug_taylor_text.specs.declared.command.CommandFault.TheVariants as fault

-- the words that all commands have
pub record FieldWords : Type 0 where
  pub source : List ℕ
  pub target : List ℕ
  pub user : List ℕ
  pub options : List ℕ

-- the further words of a command that sends a file
pub record FileWords : Type 0 where
  pub temp : List ℕ
  pub mode : ℕ
  pub notify : List ℕ

-- a line, by its words
pub data Line : Type 0 where
  send : FieldWords → FileWords → Line
  request : FieldWords → Line
  expand : FieldWords → Line
  execute : FieldWords → FileWords → (command : List (List ℕ)) → Line

infixl 10 ◌>>=◌
-- a step, and then one that needs its value
abbrev pub ◌>>=◌ : {A B : Type 0} → Result A CommandFault → (A → Result B CommandFault) → Result B CommandFault
(Ok x) >>= f = f x
(Err e) >>= f = Err e

-- ---- names

abbrev pub has_option : (letter : ℕ) → (options : List ℕ) → Bool
has_option letter options = list_any (λ b. b == letter) options

-- the bytes that a name stands for
abbrev pub name_said : (options word : List ℕ) → List ℕ
name_said options word = if has_option 113 options then unquoted word else word

-- an empty field
abbrev pub is_blank : List ℕ → Bool
is_blank word = bytes_eq word (34 ∷ 34 ∷ [])

abbrev pub is_named : (options word : List ℕ) → Bool
is_named options word = not (is_blank word) && (not (has_option 113 options) || is_well_quoted word)

-- ---- reading

abbrev pub fields_read : (source target user options : List ℕ) → Result FieldWords CommandFault
fields_read source target user options =
    if not (starts_with nat_eq options (codes "-")) then Err fault.Fields else
    (if not (is_named options source) || (not (is_named options target) || not (is_named options user)) then Err fault.Name else
    Ok (record { source = source; target = target; user = user; options = options }))

abbrev pub mode_by : Result ℕ BadText → Result ℕ CommandFault
mode_by (Ok mode) = Ok mode
mode_by (Err _) = Err fault.Mode

abbrev pub notify_read : (options temp : List ℕ) → (mode : ℕ) → (notify : List ℕ) → Result FileWords CommandFault
notify_read options temp mode notify =
    if has_option 113 options && not (is_well_quoted notify) then Err fault.Name else
    Ok (record { temp = temp; mode = mode; notify = notify })

abbrev pub file_read : (options temp mode notify : List ℕ) → Result FileWords CommandFault
file_read options temp mode notify =
    if not (is_data_name temp) then Err fault.Temp else
    mode_by (mode_read mode) >>= (λ m. notify_read options temp m notify)

abbrev pub notify_of : List ℕ → List ℕ
notify_of word = if is_blank word then [] else word

-- the NOTIFY field, which may be missing at the end of a line
abbrev pub notify_in : List (List ℕ) → List ℕ
notify_in [] = []
notify_in (word ∷ more) = notify_of word

-- FROM TO USER -OPTIONS TEMP MODE NOTIFY
abbrev pub send_of : List (List ℕ) → Result Line CommandFault
send_of (source ∷ target ∷ user ∷ options ∷ temp ∷ mode ∷ more) =
    fields_read source target user options >>= (λ f. file_read options temp mode (notify_in more) >>= (λ w. Ok (send f w)))
send_of _ = Err fault.Fields

-- FROM TO USER -OPTIONS
abbrev pub request_of : List (List ℕ) → Result FieldWords CommandFault
request_of (source ∷ target ∷ user ∷ options ∷ more) = fields_read source target user options
request_of _ = Err fault.Fields

-- FROM TO USER -OPTIONS TEMP MODE NOTIFY SIZE COMMAND..; the size is not used
abbrev pub execute_of : List (List ℕ) → Result Line CommandFault
execute_of (source ∷ target ∷ user ∷ options ∷ temp ∷ mode ∷ notify ∷ size ∷ first ∷ more) =
    fields_read source target user options >>= (λ f. file_read options temp mode (notify_of notify) >>= (λ w.
    Ok (execute f w (first ∷ more))))
execute_of _ = Err fault.Fields

-- by the one letter of the first word
abbrev pub command_by : ℕ → List (List ℕ) → Result Line CommandFault
command_by letter more =
    if letter == 83 then send_of more else
    (if letter == 82 then request_of more >>= (λ f. Ok (request f)) else
    (if letter == 88 then request_of more >>= (λ f. Ok (expand f)) else
    (if letter == 69 then execute_of more else Err fault.Unknown)))

abbrev pub command_of_words : List (List ℕ) → Result Line CommandFault
command_of_words ((letter ∷ []) ∷ more) = command_by letter more
command_of_words _ = Err fault.Unknown

abbrev pub command_of : List ℕ → Result Line CommandFault
command_of line = command_of_words (words line)
