-- The text of the file of an end's jobs when its session is over, whatever happened to the file meanwhile (this
-- project's profile).
use Rattle.std.specs.Prelude.{◌≡◌, ℕ, Bool, true, false, List, [], ◌∷◌, ◌++◌, ◌&&◌, length, take, drop, Option, Some, None, if◌then◌else◌}
use Rattle.std.specs.Str.{bytes_eq}
use Rattle.uug_conversation.specs.declared.job.Job.{Job}
use Rattle.uug_conversation.specs.declared.job.Job.TheVariants.{Send, Request}
use Rattle.uug_conversation.specs.Jobs.{Lists, pending}
use Rattle.uug_talk.specs.Lines.{lines, ended}
use Rattle.uug_store.specs.JobsText.{job_said, says_of, jobs_text}

-- ---- a text that grew

-- the part of the second text after the first one, if it begins with the first one
abbrev pub behind : (first text : List ℕ) → Option (List ℕ)
behind first text = if bytes_eq (take (length first) text) first then Some (drop (length first) text) else None

-- ---- a text that was changed otherwise

-- two copies with the same name, or no copies
abbrev pub is_copy : (temp copy : Option (List ℕ)) → Bool
is_copy None None = true
is_copy None (Some copy) = false
is_copy (Some temp) None = false
is_copy (Some temp) (Some copy) = bytes_eq temp copy

-- two jobs with the same words, and with the same copy
abbrev pub is_job : Job → Job → Bool
is_job (Send a b c temp) (Send d e f copy) = (bytes_eq a d && (bytes_eq b e && bytes_eq c f)) && is_copy temp copy
is_job (Send a b c temp) (Request d e f) = false
is_job (Request a b c) (Send d e f copy) = false
is_job (Request a b c) (Request d e f) = bytes_eq a d && (bytes_eq b e && bytes_eq c f)

abbrev pub in_front : Job → Option (List Job) → Option (List Job)
in_front job None = None
in_front job (Some jobs) = Some (job ∷ jobs)

-- the jobs without the first one that is the same as this one, or `None` if it is not among them
abbrev pub without_first : Job → List Job → Option (List Job)
without_first job [] = None
without_first job (other ∷ jobs) = if is_job other job then Some jobs else in_front other (without_first job jobs)

-- `taken` says whether a job was removed; if none was, the jobs are as before
abbrev pub IsTaken : (taken : Bool) (left : Option (List Job)) (before after : List Job) → Type 0
IsTaken true left before after = left ≡ Some after
IsTaken false left before after = (left ≡ None) × (after ≡ before)

-- the jobs without the job of a line, or `None` if it is not among them
abbrev pub without_said : Option Job → List Job → Option (List Job)
without_said None jobs = None
without_said (Some job) jobs = without_first job jobs

-- a line whose job is over is left out, and that job is removed from `over`; each other line stays
abbrev pub line_left : (left : Option (List Job)) (line : List ℕ) (over : List Job) → (List Job → List ℕ) → List ℕ
line_left None line over next = ended line ++ next over
line_left (Some left) line over next = next left

-- the line was left out and its job removed, or the line was appended to the text
abbrev pub IsLeft : (left : Option (List Job)) (line : List ℕ) (over over_after : List Job) (text text_after : List ℕ) → Type 0
IsLeft None line over over_after text text_after = (over_after ≡ over) × (text_after ≡ text ++ ended line)
IsLeft (Some left) line over over_after text text_after = (over_after ≡ left) × (text_after ≡ text)

-- these lines without one line for each job that is over
abbrev pub lines_left : (over : List Job) → List (List ℕ) → List ℕ
lines_left over [] = []
lines_left over (line ∷ more) = line_left (without_said (job_said (says_of line)) over) line over (λ left. lines_left left more)

-- ---- the text that is written

-- what was appended stays, after the pending jobs
abbrev pub jobs_after_by : (appended : Option (List ℕ)) (now : List ℕ) → Lists → List ℕ
jobs_after_by (Some appended) now l = jobs_text (pending l) ++ appended
jobs_after_by None now l = lines_left (l.struck ++ l.failed) (lines now)

-- The text that replaces the text `now` of the file; `before` was read from it when the session began. If the file only
-- grew, the pending jobs stay, and after them what was appended. If it was changed otherwise, one line is removed for
-- each job that was struck or has failed, and all else stays.
abbrev pub jobs_after : (before now : List ℕ) → Lists → List ℕ
jobs_after before now l = jobs_after_by (behind before now) now l
