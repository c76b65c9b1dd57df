-- Defines the job that is cancelled, the jobs that are left, the answer and the faults (this project's profile).
use Rattle.std.specs.Fmt.{decimal}
use Rattle.std.specs.Borrow.{Bor}
use Rattle.std.specs.Prelude.{◌≡◌, ◌⊎◌, ◌==◌, ◌-◌, ℕ, List, [], ◌∷◌, ◌++◌, codes, length, Option, Some, None, Result, Ok, Err, if◌then◌else◌, slice_get, IsSome, ⊤}
use Rattle.uug_conversation.specs.declared.job.Job.{Job}
use Rattle.uug_store.specs.JobsText.{jobs_of, jobs_text}
use Rattle.uug_store.specs.NumberText.{number_in}
use Rattle.uug_store.specs.OpenJobs.{settled_in}
use Rattle.uug_store.specs.Queueing.{is_among}
use Rattle.uug_scan.specs.Detailed.{escaped}
use Rattle.uug_error.specs.Faults.{IsReadingFault}
use Rattle.uug_error.specs.declared.run_fault.RunFault.{RunFault}
use Rattle.uug_error.specs.declared.run_fault.RunFault.TheVariants.{Tool}
use Rattle.uug_stream.specs.Streams.{Appends}
use Rattle.uug_stream.specs.declared.fault.ToolFault.{ToolFault}
use Rattle.uug_stream.specs.declared.fault.ToolFault.TheVariants as faults
use Rattle.uug_talk.specs.Lines.{ended}
use Rattle.uug_io_pending.specs.declared.answer.Answer.{Answer}
use Rattle.uug_io_pending.specs.declared.answer.Answer.TheVariants.{Cancelled, Unknown}
use Rattle.uug_io_pending.specs.declared.cancel.CancelFault.{CancelFault}
use Rattle.uug_io_pending.specs.declared.cancel.CancelFault.TheVariants.{Ordered, Run}

-- ---- which

-- the job of this number, counted from 1
abbrev pub nth_job : (number : ℕ) → List Job → Option Job
nth_job number jobs = if number == 0 then None else slice_get jobs (number - 1)

-- the job, if there is exactly one
abbrev pub only_job : List Job → Option Job
only_job jobs = if length jobs == 1 then nth_job 1 jobs else None

-- the job of a text, if it has exactly one
abbrev pub said_job : Result (List Job) ℕ → Option Job
said_job (Ok jobs) = only_job jobs
said_job (Err line) = None

-- the job, if one with the same words is among these
abbrev pub waiting : List Job → Option Job → Option Job
waiting jobs None = None
waiting jobs (Some job) = if is_among job jobs then Some job else None

-- by its number; a word that is not a number is the job's line
abbrev pub named_by : (number : Option ℕ) (word : List ℕ) → List Job → Option Job
named_by (Some number) word jobs = nth_job number jobs
named_by None word jobs = waiting jobs (said_job (jobs_of word))

-- the job among these that a word names
abbrev pub named_job : (word : List ℕ) → List Job → Option Job
named_job word jobs = named_by (number_in word) word jobs

-- ---- what is left

-- if a store exposes its jobs: all of them without the cancelled job, which is removed once
abbrev pub left_of : Option Job → Option (List Job) → Option (List Job)
left_of None stands = stands
left_of (Some job) stands = settled_in (job ∷ []) stands

-- a store is as before, or without the cancelled job
abbrev pub IsLeftOrNot : Option Job → (stands stands_after : Option (List Job)) → Type 0
IsLeftOrNot job stands stands_after = (stands_after ≡ stands) ⊎ (stands_after ≡ left_of job stands)

-- ---- what is said

abbrev pub cancelled_line : Job → List ℕ
cancelled_line job = codes "cancelled " ++ jobs_text (job ∷ [])

-- how to name one of the `waiting` jobs
abbrev pub count_words : (waiting : ℕ) → List ℕ
count_words waiting =
    if waiting == 0 then codes "none waits" else
    codes "give a number from 1 to " ++ (decimal waiting ++ codes ", or a line of the list")

-- the line for a word that names none of the `waiting` jobs
abbrev pub unknown_line : (word : List ℕ) (waiting : ℕ) → List ℕ
unknown_line word waiting = codes "uucpair: \"" ++ (escaped word ++ (codes "\": no such job: " ++ ended (count_words waiting)))

abbrev pub status_of : Answer → ℕ
status_of (Cancelled job) = 0
status_of (Unknown waiting) = 1

-- a cancelled job is written to the output; if there is none, the remark says so, and nothing is written
abbrev pub SaysAnswer : Answer → (word : List ℕ) (written written_after : Option (List ℕ)) (remark : List ℕ) → Type 0
SaysAnswer (Cancelled job) word written written_after remark =
    Appends (cancelled_line job) written written_after × (remark ≡ [])
SaysAnswer (Unknown waiting) word written written_after remark =
    (written_after ≡ written) × (remark ≡ unknown_line word waiting)

-- ---- what a cancel gives up for

-- faults of the answer: a refused write, and out of memory
abbrev pub IsSayingFault : ToolFault → Type 0
IsSayingFault faults.Write = ⊤
IsSayingFault faults.Memory = ⊤
IsSayingFault _ = ⊥

-- faults of a run: also those of reading the folder; a device fault names the call that failed
abbrev pub IsGivenUp : RunFault → Type 0
IsGivenUp (Tool faults.Write) = ⊤
IsGivenUp fault = IsReadingFault fault

-- an order was given as well, or the run gave up
abbrev pub IsCancelFault : (order : Option (Bor (List ℕ))) → CancelFault → Type 0
IsCancelFault order Ordered = IsSome order
IsCancelFault order (Run fault) = IsGivenUp fault
