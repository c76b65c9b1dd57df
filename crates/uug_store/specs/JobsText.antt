-- The jobs in a text, and the text of a list of jobs (this project's profile).
use Rattle.std.specs.Prelude.{◌≡◌, ◌==◌, ℕ, suc, ⊤, List, [], ◌∷◌, ◌++◌, length, codes, nat_le, Option, Some, None, Result, Ok, Err, if◌then◌else◌}
use Rattle.std.specs.Str.{bytes_eq}
use Rattle.uug_conversation.specs.declared.job.Job.{Job}
use Rattle.uug_conversation.specs.declared.job.Job.TheVariants.{Send, Request}
use Rattle.uug_conversation.specs.declared.queue.TheConstants.{JOBS_MAX}
use Rattle.uug_talk.specs.Name.{IsName, name_of}
use Rattle.uug_talk.specs.Words.{words, joined}
use Rattle.uug_talk.specs.declared.lines.TheConstants.{LINE_MAX}
use Rattle.uug_talk.specs.Chained.{◌>>=◌}
use Rattle.uug_talk.specs.Lines.{is_comment, lines, ended}
use Rattle.uug_conversation.specs.Jobs.{Lists, at_start, pending}
use Rattle.uug_stream.specs.declared.fault.ToolFault.{ToolFault}
use Rattle.uug_stream.specs.declared.fault.ToolFault.TheVariants as faults
use Rattle.uug_store.specs.declared.jobs_text.JobsFault.{JobsFault}
use Rattle.uug_store.specs.declared.jobs_text.JobsFault.TheVariants as fault

-- the meaning of a line
pub data LineSays : Type 0 where
  no_job : LineSays
  one_job : Job → LineSays

-- the job of these words; the first one is `send` or `request`
abbrev pub job_by : (first source target user : List ℕ) → Option Job
job_by first source target user =
    if bytes_eq first (codes "send") then Some (Send source target user None) else
    (if bytes_eq first (codes "request") then Some (Request source target user) else None)

-- send SOURCE TARGET USER, or request SOURCE TARGET USER
abbrev pub job_of : List ℕ → List (List ℕ) → Option Job
job_of first (source ∷ target ∷ user ∷ []) =
    name_of source >>= (λ s. name_of target >>= (λ t. name_of user >>= (λ u. job_by first s t u)))
job_of first _ = None

-- a line with no word is no job, and neither is a comment
abbrev pub says_of_words : List (List ℕ) → Option LineSays
says_of_words [] = Some no_job
says_of_words (first ∷ ws) = if is_comment first then Some no_job else job_of first ws >>= (λ job. Some (one_job job))

-- the meaning of a line, or `None` if it is bad; a line of more than `LINE_MAX` bytes is bad
abbrev pub says_of : List ℕ → Option LineSays
says_of line = if nat_le (length line) LINE_MAX then says_of_words (words line) else None

-- the job of a line, if the line is a job
abbrev pub job_said : Option LineSays → Option Job
job_said None = None
job_said (Some no_job) = None
job_said (Some (one_job job)) = Some job

-- the jobs with that of a line added; the line is bad if `JOBS_MAX` jobs are there already
abbrev pub with_line : LineSays → List Job → Option (List Job)
with_line no_job jobs = Some jobs
with_line (one_job job) jobs = if length jobs == JOBS_MAX then None else Some (jobs ++ job ∷ [])

-- the jobs with that of one more line added, or `None` if the line is bad
abbrev pub line_added : List ℕ → List Job → Option (List Job)
line_added line jobs = says_of line >>= (λ says. with_line says jobs)

-- the result of the next step, or the number of the line if it is bad
abbrev pub or_bad : ℕ → Option (List Job) → (List Job → Result (List Job) ℕ) → Result (List Job) ℕ
or_bad n None next = Err n
or_bad n (Some jobs) next = next jobs

-- these jobs, then those of these lines, or the number of the first bad line; the first line has the number `n`
abbrev pub jobs_from : ℕ → List Job → List (List ℕ) → Result (List Job) ℕ
jobs_from n jobs [] = Ok jobs
jobs_from n jobs (line ∷ more) = or_bad n (line_added line jobs) (λ next. jobs_from (suc n) next more)

-- the jobs of a text, in order, or the number of its first bad line, counted from 1
abbrev pub jobs_of : List ℕ → Result (List Job) ℕ
jobs_of text = jobs_from 1 [] (lines text)

-- the fault has the number of the first bad line; when memory runs out is left open
abbrev pub Faults : JobsFault → Result (List Job) ℕ → Type 0
Faults (fault.Bad n) jobs = jobs ≡ Err n
Faults fault.Memory jobs = ⊤

-- the fault has the number of the first bad line, or memory ran out; when it does is left open
abbrev pub IsJobsFault : ToolFault → Result (List Job) ℕ → Type 0
IsJobsFault (faults.Jobs n) jobs = jobs ≡ Err n
IsJobsFault faults.Memory jobs = ⊤
IsJobsFault _ jobs = ⊥

-- The queue of an end whose session begins has exactly the jobs of this text: all of them are still to be offered, and
-- none was done or given up.
pub record IsQueueOf (text : List ℕ) (queue : Lists) : Type 0 where
  pub jobs : jobs_of text ≡ Ok (pending queue)
  pub fresh : queue ≡ at_start (pending queue) [] []

-- The queue of an end whose session begins has the first jobs of this text, at least one if there are any: all of them
-- are still to be offered, and none was done or given up. The jobs after them wait for another session.
pub record IsFrontOf (text : List ℕ) (queue : Lists) : Type 0 where
  pub behind : List Job
  pub jobs : jobs_of text ≡ Ok (pending queue ++ behind)
  pub fresh : queue ≡ at_start (pending queue) [] []
  pub some : pending queue ≡ [] → behind ≡ []

-- the fault has the number of this line, which can't be added; when memory runs out is left open
abbrev pub RefusesLine : ℕ → JobsFault → Option (List Job) → Type 0
RefusesLine number (fault.Bad n) added = (n ≡ number) × (added ≡ None)
RefusesLine number fault.Memory added = ⊤

-- the words of a job's line
abbrev pub job_words : Job → List (List ℕ)
job_words (Send source target user temp) = codes "send" ∷ source ∷ target ∷ user ∷ []
job_words (Request source target user) = codes "request" ∷ source ∷ target ∷ user ∷ []

-- a job's line, with one space between the words; the name of the job's copy isn't written
abbrev pub job_line : Job → List ℕ
job_line job = ended (joined (job_words job))

-- one line a job
abbrev pub jobs_text : List Job → List ℕ
jobs_text [] = []
jobs_text (job ∷ more) = job_line job ++ jobs_text more

-- a job that its line describes completely: its words are names, and it has no copy
abbrev pub IsPlainJob : Job → Type 0
IsPlainJob (Send source target user temp) = IsName source × IsName target × IsName user × (temp ≡ None)
IsPlainJob (Request source target user) = IsName source × IsName target × IsName user
