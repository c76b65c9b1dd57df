-- The words for what is wrong with a line of jobs (this project's profile).
use Rattle.std.specs.Fmt.{decimal}
use Rattle.std.specs.Prelude.{◌==◌, ◌-◌, ◌||◌, ℕ, Bool, List, [], ◌∷◌, ◌++◌, codes, eqb, length, nat_eq, nat_le, take, Option, Some, None, Result, Ok, Err, if◌then◌else◌}
use Rattle.std.specs.List.{ends_with, list_any}
use Rattle.std.specs.Str.{bytes_eq}
use Rattle.uug_conversation.specs.declared.job.Job.{Job}
use Rattle.uug_store.specs.JobsText.{jobs_of}
use Rattle.uug_scan.specs.Detailed.{escaped}
use Rattle.uug_talk.specs.Lines.{ended, lines}
use Rattle.uug_talk.specs.Name.{is_name}
use Rattle.uug_talk.specs.Words.{words}
use Rattle.uug_talk.specs.declared.lines.TheConstants.{LINE_MAX}

-- the line of this number, counted from 1
abbrev pub line_at : List (List ℕ) → ℕ → Option (List ℕ)
line_at [] number = None
line_at (line ∷ more) number = if nat_le number 1 then Some line else line_at more (number - 1)

-- the first 60 bytes of a word, in quotes. Those that can't be seen are escaped
abbrev pub quoted : List ℕ → List ℕ
quoted word = codes "\"" ++ (escaped (take 60 word) ++ codes "\"")

-- the words for a word that is not a name
abbrev pub no_name : List ℕ → List ℕ
no_name word = quoted word ++ codes " is not a name: 1 to 200 printable characters"

-- the first of the three that is not a name. If all are names, there is one job too many
abbrev pub names_words : (source target user : List ℕ) → List ℕ
names_words source target user =
    if is_name source
    then (if is_name target then (if is_name user then codes "there are more than 1024 jobs" else no_name user) else no_name target)
    else no_name source

-- three words have to follow the first word of a line
abbrev pub behind_words : List (List ℕ) → List ℕ
behind_words [] = codes "SOURCE, TARGET and USER are missing"
behind_words (source ∷ []) = codes "TARGET and USER are missing"
behind_words (source ∷ target ∷ []) = codes "USER is missing"
behind_words (source ∷ target ∷ user ∷ []) = names_words source target user
behind_words (source ∷ target ∷ user ∷ more ∷ rest) = quoted more ++ codes " is one word too many: names have no spaces"

abbrev pub is_order : List ℕ → Bool
is_order first = bytes_eq first (codes "send") || bytes_eq first (codes "request")

abbrev pub words_lack : List (List ℕ) → List ℕ
words_lack [] = []
words_lack (first ∷ behind) =
    if is_order first then behind_words behind else quoted first ++ codes " is neither send nor request"

-- a carriage return is before the line feed
abbrev pub ends_in_cr : List ℕ → Bool
ends_in_cr line = ends_with nat_eq line (13 ∷ [])

abbrev pub has_tab : List ℕ → Bool
has_tab line = list_any (λ b. eqb b 9) line

-- what is wrong with a line that is bad and not too long
abbrev pub blanks_lack : List ℕ → List ℕ
blanks_lack line =
    if ends_in_cr line then codes "it ends in CR LF: end lines with LF alone" else
    (if has_tab line then codes "it has a tab: separate words with spaces only" else words_lack (words line))

-- what is wrong with a line that is bad
abbrev pub lack_words : List ℕ → List ℕ
lack_words line = if nat_le (length line) LINE_MAX then blanks_lack line else codes "it is over 65536 bytes"

-- the folder of the jobs, and the number of the line
abbrev pub place_words : (dir : List ℕ) → (number : ℕ) → List ℕ
place_words dir number = escaped dir ++ (codes "/jobs: line " ++ (decimal number ++ codes ": "))

abbrev pub jobs_line : (dir : List ℕ) → (number : ℕ) → Option (List ℕ) → List ℕ
jobs_line dir number (Some line) = codes "uucpair: " ++ (place_words dir number ++ ended (lack_words line))
jobs_line dir number None = []

-- `line`, if the first bad line has this number, given the jobs of a text or the number of its first bad line
abbrev pub remark_at : Result (List Job) ℕ → (number : ℕ) → (line : List ℕ) → List ℕ
remark_at (Ok jobs) number line = []
remark_at (Err bad) number line = if bad == number then line else []

-- what is wrong with the line of this number, if it is the first bad one
abbrev pub jobs_remark : (dir text : List ℕ) → (number : ℕ) → List ℕ
jobs_remark dir text number = remark_at (jobs_of text) number (jobs_line dir number (line_at (lines text) number))
