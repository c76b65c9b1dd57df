-- What a command is as a text (Taylor UUCP manual, "UUCP Protocol"; that further words and all
-- options but C are read past is this project's profile).
use Rattle.std.specs.Prelude.{◌≡◌, ◌==◌, ◌⊎◌, ℕ, ◌<◌, ◌≤◌, Bool, List, [], ◌∷◌, ◌++◌, length, codes, nat_eq, nat_lt, Contains, Option, Some, None, Result, Ok, Err, if◌then◌else◌}
use Rattle.std.specs.List.{list_any, starts_with}
use Rattle.uug_talk.specs.declared.error.BadText.{BadText}
use Rattle.uug_talk.specs.declared.error.BadText.TheVariants as fault
use Rattle.uug_talk.specs.declared.order.Order.{Order}
use Rattle.uug_talk.specs.declared.order.Order.TheVariants.{Send, Request, HangUp}
use Rattle.uug_talk.specs.declared.words.TheConstants.{COMMAND_MAX}
use Rattle.uug_talk.specs.Mode.{IsModeWord, mode_of, mode_digits, mode_read}
use Rattle.uug_talk.specs.declared.mode.TheConstants.{MODE_MAX}
use Rattle.uug_talk.specs.Name.{IsName, name_read}
use Rattle.uug_talk.specs.Refusal.{◌>>=◌}
use Rattle.uug_talk.specs.Words.{words, joined}

-- the word of the options: a dash, and letters behind it
abbrev pub IsOptions : List ℕ → Type 0
IsOptions word = (letters : List ℕ) × (word ≡ 45 ∷ letters)

-- the name of the copy stands in its word exactly where there is an option C
abbrev pub NamesCopy : List ℕ → List ℕ → Option (List ℕ) → Type 0
NamesCopy options word None = ¬ Contains options 67
NamesCopy options word (Some temp) = Contains options 67 × IsName temp × (word ≡ temp)

-- `S source target user -options temp mode`
pub record SpellsSend (ws : List (List ℕ)) (source target user : List ℕ) (temp : Option (List ℕ)) (mode : ℕ) : Type 0 where
  pub options : List ℕ
  pub copy : List ℕ
  pub digits : List ℕ
  pub more : List (List ℕ)
  pub spelled : ws ≡ codes "S" ∷ source ∷ target ∷ user ∷ options ∷ copy ∷ digits ∷ more
  pub dash : IsOptions options
  pub names : IsName source × IsName target × IsName user
  pub temp_name : NamesCopy options copy temp
  pub octal : IsModeWord digits × (mode ≡ mode_of digits)

-- `R source target user -options`
pub record SpellsRequest (ws : List (List ℕ)) (source target user : List ℕ) : Type 0 where
  pub options : List ℕ
  pub more : List (List ℕ)
  pub spelled : ws ≡ codes "R" ∷ source ∷ target ∷ user ∷ options ∷ more
  pub dash : IsOptions options
  pub names : IsName source × IsName target × IsName user

-- the words spell the command
abbrev pub SpellsOrder : List (List ℕ) → Order → Type 0
SpellsOrder ws (Send source target user temp mode) = SpellsSend ws source target user temp mode
SpellsOrder ws (Request source target user) = SpellsRequest ws source target user
SpellsOrder ws HangUp = (more : List (List ℕ)) × (ws ≡ codes "H" ∷ more)

-- the text is the command
pub record ReadsOrder (text : List ℕ) (order : Order) : Type 0 where
  pub within : length text ≤ COMMAND_MAX
  pub spelled : SpellsOrder (words text) order

-- Why a text is no command: the first of these that holds, in this order.

-- the words of a command whose fields are there, whatever they hold
pub record SendFields (ws : List (List ℕ)) : Type 0 where
  pub source : List ℕ
  pub target : List ℕ
  pub user : List ℕ
  pub options : List ℕ
  pub copy : List ℕ
  pub digits : List ℕ
  pub more : List (List ℕ)
  pub spelled : ws ≡ codes "S" ∷ source ∷ target ∷ user ∷ options ∷ copy ∷ digits ∷ more
  pub dash : IsOptions options

pub record RequestFields (ws : List (List ℕ)) : Type 0 where
  pub source : List ℕ
  pub target : List ℕ
  pub user : List ℕ
  pub options : List ℕ
  pub more : List (List ℕ)
  pub spelled : ws ≡ codes "R" ∷ source ∷ target ∷ user ∷ options ∷ more
  pub dash : IsOptions options

-- each word that stands for a name is one
abbrev pub SendNames : {ws : List (List ℕ)} → SendFields ws → Type 0
SendNames f = IsName f.source × IsName f.target × IsName f.user × (Contains f.options 67 → IsName f.copy)

abbrev pub RequestNames : {ws : List (List ℕ)} → RequestFields ws → Type 0
RequestNames f = IsName f.source × IsName f.target × IsName f.user

-- the first word is this letter
abbrev pub HasLetter : List (List ℕ) → ℕ → Type 0
HasLetter ws letter = (more : List (List ℕ)) × (ws ≡ (letter ∷ []) ∷ more)

abbrev pub RefusedWords : BadText → List (List ℕ) → Type 0
RefusedWords fault.Unknown ws = (¬ HasLetter ws 83) × (¬ HasLetter ws 82) × (¬ HasLetter ws 72)
RefusedWords fault.Fields ws = (HasLetter ws 83 × (¬ SendFields ws)) ⊎ (HasLetter ws 82 × (¬ RequestFields ws))
RefusedWords fault.Name ws = ((f : SendFields ws) × (¬ SendNames f)) ⊎ ((f : RequestFields ws) × (¬ RequestNames f))
RefusedWords fault.Mode ws = (f : SendFields ws) × SendNames f × (¬ IsModeWord f.digits)
RefusedWords fault.TooLong ws = ⊥
RefusedWords fault.Memory ws = ⊥

abbrev pub IsRefusedOrder : BadText → List ℕ → Type 0
IsRefusedOrder fault.TooLong text = COMMAND_MAX < length text
IsRefusedOrder f text = (length text ≤ COMMAND_MAX) × RefusedWords f (words text)

-- Writing. In place of the name of a copy that isn't there stands a filler, `D.0`.

abbrev pub order_words : Order → List (List ℕ)
order_words (Send source target user None mode) = codes "S" ∷ source ∷ target ∷ user ∷ codes "-" ∷ codes "D.0" ∷ mode_digits mode ∷ []
order_words (Send source target user (Some temp) mode) = codes "S" ∷ source ∷ target ∷ user ∷ codes "-C" ∷ temp ∷ mode_digits mode ∷ []
order_words (Request source target user) = codes "R" ∷ source ∷ target ∷ user ∷ codes "-" ∷ []
order_words HangUp = codes "H" ∷ []

abbrev pub order_text : Order → List ℕ
order_text order = joined (order_words order)

-- a mode that four octal digits can write
abbrev pub HasMode : Order → Type 0
HasMode (Send source target user temp mode) = mode ≤ MODE_MAX
HasMode (Request source target user) = Unit {0}
HasMode HangUp = Unit {0}

abbrev pub AreNames : List ℕ → List ℕ → List ℕ → Type 0
AreNames source target user = IsName source × IsName target × IsName user

abbrev pub IsCopy : Option (List ℕ) → Type 0
IsCopy None = Unit {0}
IsCopy (Some temp) = IsName temp

abbrev pub HasNames : Order → Type 0
HasNames (Send source target user temp mode) = AreNames source target user × IsCopy temp
HasNames (Request source target user) = AreNames source target user
HasNames HangUp = Unit {0}

-- the words of the options and of the copy, behind the names
abbrev pub copy_text : Option (List ℕ) → List ℕ
copy_text None = codes " - D.0"
copy_text (Some temp) = codes " -C " ++ temp

-- Reading, as a function: the command, or the first refusal.

abbrev pub begins_with_dash : List ℕ → Bool
begins_with_dash word = starts_with nat_eq word (codes "-")

abbrev pub temp_read : List ℕ → List ℕ → Result (Option (List ℕ)) BadText
temp_read options word =
    if list_any (λ b. b == 67) options then name_read word >>= (λ temp. Ok (Some temp)) else Ok None

abbrev pub send_read : List ℕ → List ℕ → List ℕ → List ℕ → List ℕ → List ℕ → Result Order BadText
send_read source target user options temp mode =
    if begins_with_dash options then
    name_read source >>= (λ s. name_read target >>= (λ t. name_read user >>= (λ u.
    temp_read options temp >>= (λ c. mode_read mode >>= (λ m. Ok (Send s t u c m))))))
    else Err fault.Fields

abbrev pub send_of : List (List ℕ) → Result Order BadText
send_of (source ∷ target ∷ user ∷ options ∷ temp ∷ mode ∷ more) = send_read source target user options temp mode
send_of _ = Err fault.Fields

abbrev pub request_read : List ℕ → List ℕ → List ℕ → List ℕ → Result Order BadText
request_read source target user options =
    if begins_with_dash options then
    name_read source >>= (λ s. name_read target >>= (λ t. name_read user >>= (λ u. Ok (Request s t u))))
    else Err fault.Fields

abbrev pub request_of : List (List ℕ) → Result Order BadText
request_of (source ∷ target ∷ user ∷ options ∷ more) = request_read source target user options
request_of _ = Err fault.Fields

-- by the one letter of the first word
abbrev pub order_by : ℕ → List (List ℕ) → Result Order BadText
order_by letter more =
    if letter == 83 then send_of more else
    (if letter == 82 then request_of more else
    (if letter == 72 then Ok HangUp else Err fault.Unknown))

abbrev pub order_of_words : List (List ℕ) → Result Order BadText
order_of_words [] = Err fault.Unknown
order_of_words ([] ∷ more) = Err fault.Unknown
order_of_words ((letter ∷ []) ∷ more) = order_by letter more
order_of_words ((letter ∷ next ∷ behind) ∷ more) = Err fault.Unknown

abbrev pub order_of : List ℕ → Result Order BadText
order_of text = if nat_lt COMMAND_MAX (length text) then Err fault.TooLong else order_of_words (words text)
