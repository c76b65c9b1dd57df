-- Defines the jobs that a text lists as failed, and why they did (this project's profile).
use Rattle.std.specs.List.{starts_with}
use Rattle.std.specs.Prelude.{ℕ, List, [], ◌∷◌, ◌++◌, codes, drop, nat_eq, Option, Some, None, if◌then◌else◌, unwrap_or}
use Rattle.uug_conversation.specs.declared.job.Job.{Job}
use Rattle.uug_store.specs.JobsText.{jobs_of}
use Rattle.uug_talk.specs.Lines.{lines}
use Rattle.uug_io_pending.specs.Cancelled.{said_job}
use Rattle.uug_io_pending.specs.declared.failed_job.FailedJob.{FailedJob}

-- a job, and the words that say why it failed
pub record Failed : Type 0 where
  pub job : Job
  pub why : List ℕ

abbrev pub shown_failed : FailedJob → Failed
shown_failed f = record { job = f.job; why = f.why.now }

-- the text of a line that is a comment
abbrev pub comment_in : (line : List ℕ) → Option (List ℕ)
comment_in line = if starts_with nat_eq line (codes "# ") then Some (drop 2 line) else None

-- the job of a line that is no comment
abbrev pub told_by : (comment : Option (List ℕ)) → Option Job → (why : List ℕ) → List Failed
told_by (Some comment) job why = []
told_by None None why = []
told_by None (Some job) why = record { job = job; why = why } ∷ []

-- each job of these lines with the last comment before it
abbrev pub failed_from : (why : List ℕ) → List (List ℕ) → List Failed
failed_from why [] = []
failed_from why (line ∷ more) =
    told_by (comment_in line) (said_job (jobs_of line)) why ++ failed_from (unwrap_or (comment_in line) why) more

abbrev pub failed_in : (text : List ℕ) → List Failed
failed_in text = failed_from [] (lines text)
