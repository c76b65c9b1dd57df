-- The jobs in a store of jobs, and those that are left when some are over (this project's profile). Jobs with the same
-- words and the same copy are the same job to a store, which may have it several times.
use Rattle.std.specs.Prelude.{◌≡◌, ◌≤◌, ◌⊎◌, ℕ, suc, Bool, true, false, List, [], ◌∷◌, Option, Some, None, ⊤}
use Rattle.uug_conversation.specs.declared.job.Job.{Job}
use Rattle.uug_talk.specs.Lines.{lines}
use Rattle.uug_store.specs.JobsAfter.{is_job, lines_left, without_first}
use Rattle.uug_store.specs.JobsText.{job_said, says_of}
use Rattle.uug_store.specs.Notices.{TellsSome, also_told}

-- ---- those in a text

abbrev pub with_said : Option Job → List Job → List Job
with_said None jobs = jobs
with_said (Some job) jobs = job ∷ jobs

-- the jobs of these lines; a line that is bad, or is no job, is skipped
abbrev pub jobs_in : List (List ℕ) → List Job
jobs_in [] = []
jobs_in (line ∷ more) = with_said (job_said (says_of line)) (jobs_in more)

-- the jobs in the text of a file, if the file exposes it
abbrev pub open_in : Option (List ℕ) → Option (List Job)
open_in None = None
open_in (Some text) = Some (jobs_in (lines text))

-- the text of a file without one line for each job that is over, if the file exposes it
abbrev pub text_left : (over : List Job) → Option (List ℕ) → Option (List ℕ)
text_left over None = None
text_left over (Some text) = Some (lines_left over (lines text))

-- ---- what is left

-- a job that is over is removed, also from `over`, and each other stays
abbrev pub job_left : (left : Option (List Job)) (job : Job) (over : List Job) → (List Job → List Job) → List Job
job_left None job over next = job ∷ next over
job_left (Some left) job over next = next left

-- these jobs without those that are over, each of which is removed once
abbrev pub jobs_left : (over : List Job) → List Job → List Job
jobs_left over [] = []
jobs_left over (job ∷ more) = job_left (without_first job over) job over (λ left. jobs_left left more)

-- the jobs left in a store, if it exposes its jobs
abbrev pub settled_in : (over : List Job) → Option (List Job) → Option (List Job)
settled_in over None = None
settled_in over (Some jobs) = Some (jobs_left over jobs)

-- the jobs are as before, and the first bytes of the notices of failed jobs were appended, perhaps none or all; or
-- these jobs are removed, and the notices were appended completely
abbrev pub IsSettledOrNot : (over : List Job) (notice : List ℕ) → (stands stands_after : Option (List Job))
    (told told_after : Option (List ℕ)) → Type 0
IsSettledOrNot over notice stands stands_after told told_after =
    ((stands_after ≡ stands) × TellsSome notice told told_after)
    ⊎ ((stands_after ≡ settled_in over stands) × (told_after ≡ also_told notice told))

-- the same for the text of the jobs
abbrev pub IsTextSettledOrNot : (over : List Job) (notice : List ℕ) → (text text_after told told_after : Option (List ℕ)) → Type 0
IsTextSettledOrNot over notice text text_after told told_after =
    ((text_after ≡ text) × TellsSome notice told told_after)
    ⊎ ((text_after ≡ text_left over text) × (told_after ≡ also_told notice told))

-- ---- the jobs of an end

abbrev pub one_more_if : Bool → ℕ → ℕ
one_more_if true n = suc n
one_more_if false n = n

-- how often a job is among these
abbrev pub times : Job → List Job → ℕ
times job [] = 0
times job (other ∷ more) = one_more_if (is_job other job) (times job more)

-- if the store exposes its jobs: they are exactly these, each as often
abbrev pub Holds : Option (List Job) → List Job → Type 0
Holds None jobs = ⊤
Holds (Some stands) jobs = (job : Job) → times job stands ≡ times job jobs

-- if the store exposes its jobs: it has each of these at least as often
abbrev pub HoldsAtLeast : Option (List Job) → List Job → Type 0
HoldsAtLeast None jobs = ⊤
HoldsAtLeast (Some stands) jobs = (job : Job) → times job jobs ≤ times job stands

-- if the store had exactly an end's pending jobs before, it has exactly those that are pending after
pub record StaysHeld (stands stands_after : Option (List Job)) (jobs jobs_after : List Job) : Type 0 where
  pub holds : Holds stands jobs → Holds stands_after jobs_after

-- if the store had each pending job before, it has each that is still pending: none is lost
pub record LosesNone (stands stands_after : Option (List Job)) (jobs jobs_after : List Job) : Type 0 where
  pub holds : HoldsAtLeast stands jobs → HoldsAtLeast stands_after jobs_after
