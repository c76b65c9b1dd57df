-- The file of an end's jobs when its session is over (this project's profile).
use Rattle.std.specs.Prelude.{◌≡◌, ◌⊎◌, ℕ, List, Option, Some, None}
use Rattle.uug_conversation.specs.Jobs.{Lists}
use Rattle.uug_store.specs.JobsAfter.{jobs_after}

-- the text that the file then has, if it exposes its text: what stays of it, by the end's lists of jobs
abbrev pub settled : (before : List ℕ) → Lists → Option (List ℕ) → Option (List ℕ)
settled before l None = None
settled before l (Some now) = Some (jobs_after before now l)

-- the file is as before, or has what stays of it
abbrev pub IsSettled : (before : List ℕ) → Lists → (text after : Option (List ℕ)) → Type 0
IsSettled before l text after = (after ≡ text) ⊎ (after ≡ settled before l text)
