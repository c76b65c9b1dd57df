-- The list of jobs, the arguments and faults of `queue`, and jobs with the same target (this project's profile).
use Rattle.std.specs.Prelude.{◌≡◌, ◌&&◌, ℕ, Bool, false, not, List, [], Option, Some, None, Ok, option_map, unwrap_or, if◌then◌else◌, IsSome}
use Rattle.std.specs.Borrow.{Bor}
use Rattle.std.specs.List.{list_any}
use Rattle.std.specs.Str.{bytes_eq}
use Rattle.uug_conversation.specs.declared.job.Job.{Job}
use Rattle.uug_conversation.specs.declared.job.Job.TheVariants.{Send, Request}
use Rattle.uug_store.specs.JobsText.{jobs_of, jobs_text}
use Rattle.uug_error.specs.Faults.{IsQueueFault}
use Rattle.uug_io_disk.specs.declared.queue.QueueFault.{QueueFault}
use Rattle.uug_io_disk.specs.declared.queue.QueueFault.TheVariants.{Order, Run}

abbrev pub word_in : Option (Bor (List ℕ)) → Option (List ℕ)
word_in word = option_map (λ (w : Bor (List ℕ)). w.now) word

abbrev pub word_or_empty : Option (Bor (List ℕ)) → List ℕ
word_or_empty word = unwrap_or (word_in word) []

-- the list has a line for each job of the text, in order
pub record IsListOf (text list : List ℕ) : Type 0 where
  pub jobs : List Job
  pub read : jobs_of text ≡ Ok jobs
  pub lines : list ≡ jobs_text jobs

-- the job sends another file than `source` to this target
abbrev pub is_rival : (source target : List ℕ) → Job → Bool
is_rival source target (Send other place user temp) = not (bytes_eq other source) && bytes_eq place target
is_rival source target (Request other place user) = false

abbrev pub has_rival : (source target : List ℕ) → List Job → Bool
has_rival source target jobs = list_any (is_rival source target) jobs

-- the target, if another job sends another file there
abbrev pub rival_among : (source target : List ℕ) → List Job → Option (List ℕ)
rival_among source target jobs = if has_rival source target jobs then Some target else None

-- why nothing was queued or listed: an order was given and is bad, or the run gave up; a device fault names the call
-- that failed
abbrev pub IsFaultOfQueue : (order : Option (Bor (List ℕ))) → QueueFault → Type 0
IsFaultOfQueue order (Order fault) = IsSome order
IsFaultOfQueue order (Run fault) = IsQueueFault fault
