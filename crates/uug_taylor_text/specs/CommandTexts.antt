-- The text of a line of a C. file (as Taylor UUCP 1.07 writes it).
use Rattle.std.specs.Prelude.{◌≡◌, ◌<◌, ◌≤◌, ℕ, true, false, All, List, [], ◌∷◌, ◌++◌, codes, length}
use Rattle.std.specs.List.{AllByRecursion}
use Rattle.uug_talk.specs.Lines.{ended}
use Rattle.uug_talk.specs.Mode.{mode_digits}
use Rattle.uug_talk.specs.Words.{is_space}
use Rattle.uug_talk.specs.declared.mode.TheConstants.{MODE_MAX}
use Rattle.uug_taylor_text.specs.CommandLines.{FieldWords, FileWords, Line, send, request, expand, execute, is_named}
use Rattle.uug_taylor_text.specs.ExecutionTexts.{spaced}
use Rattle.uug_taylor_text.specs.SpoolNames.{begins_with, is_data_name}

abbrev pub field_words : FieldWords → List (List ℕ)
field_words f = f.source ∷ f.target ∷ f.user ∷ f.options ∷ []

abbrev pub copy_words : FileWords → List (List ℕ)
copy_words w = w.temp ∷ mode_digits w.mode ∷ []

-- the NOTIFY field in the middle of a line: two quotation marks if it is empty
abbrev pub notify_field : List ℕ → List ℕ
notify_field [] = 34 ∷ 34 ∷ []
notify_field (b ∷ bs) = b ∷ bs

-- the letter of a command and its words; an empty field at the end leaves its space, and the size of an E line is 0
abbrev pub line_of : Line → List ℕ
line_of (send f w) = 83 ∷ spaced (field_words f ++ copy_words w ++ w.notify ∷ [])
line_of (request f) = 82 ∷ spaced (field_words f)
line_of (expand f) = 88 ∷ spaced (field_words f)
line_of (execute f w command) =
    69 ∷ spaced (field_words f ++ copy_words w ++ notify_field w.notify ∷ (48 ∷ []) ∷ command)

abbrev pub line_text : Line → List ℕ
line_text line = ended (line_of line)

-- ---- what may be written

abbrev pub HasNoSpace : List ℕ → Type 0
HasNoSpace word = All (λ b. is_space b ≡ false) word

abbrev pub IsWordOfLine : List ℕ → Type 0
IsWordOfLine word = (0 < length word) × HasNoSpace word

-- a word that is a name, with these options
pub record IsNamed (options word : List ℕ) : Type 0 where
  pub some : 0 < length word
  pub solid : HasNoSpace word
  pub named : is_named options word ≡ true

pub record AreFields (f : FieldWords) : Type 0 where
  pub source : IsNamed f.options f.source
  pub target : IsNamed f.options f.target
  pub user : IsNamed f.options f.user
  pub dash : begins_with (codes "-") f.options ≡ true
  pub solid : HasNoSpace f.options

-- NOTIFY may be empty
pub record IsFile (options : List ℕ) (w : FileWords) : Type 0 where
  pub temp : is_data_name w.temp ≡ true
  pub solid : HasNoSpace w.temp
  pub mode : w.mode ≤ MODE_MAX
  pub notify : HasNoSpace w.notify
  pub named : is_named options w.notify ≡ true

-- one word at least, each with one byte at least and no space
pub record IsRun (command : List (List ℕ)) : Type 0 where
  pub some : 0 < length command
  pub words : AllByRecursion IsWordOfLine command

abbrev pub IsLine : Line → Type 0
IsLine (send f w) = AreFields f × IsFile f.options w
IsLine (request f) = AreFields f
IsLine (expand f) = AreFields f
IsLine (execute f w command) = AreFields f × IsFile f.options w × IsRun command
