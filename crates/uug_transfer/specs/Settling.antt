-- The part of an end's results that is on its disk (this project's profile).
use Rattle.std.specs.Prelude.{◌≡◌, ℕ, List, ◌++◌, Option, Some, None, drop, length, ⊤}
use Rattle.uug_conversation.specs.declared.job.Job.{Job}
use Rattle.uug_conversation.specs.Jobs.{Lists, pending}
use Rattle.uug_store.specs.NumberText.{HoldsNumber, holding_number}
use Rattle.uug_conversation.specs.Holdings.{Holdings}
use Rattle.uug_store.specs.Notices.{also_told, notices}
use Rattle.uug_store.specs.OpenJobs.{LosesNone, StaysHeld}
use Rattle.uug_session.specs.Node.{NodeState}
use Rattle.uug_transfer.specs.Ends.{jobs_of_end, number_of_end}
use Rattle.uug_transfer.specs.declared.settled.Settled.{Settled}

-- ---- the jobs

-- all jobs that were struck or have failed are removed from their store
pub record AreSettled (settled : Settled) (l : Lists) : Type 0 where
  pub struck : settled.struck ≡ length l.struck
  pub failed : settled.failed ≡ length l.failed

-- the jobs that are still to be removed from their store
abbrev pub unsettled : Settled → Lists → List Job
unsettled settled l = drop settled.struck l.struck ++ drop settled.failed l.failed

-- if its store had exactly its pending jobs before, it has exactly those that are pending after
abbrev pub StaysInStore : (stands stands_after : Option (List Job)) (before after : NodeState) → Type 0
StaysInStore stands stands_after before after =
    StaysHeld stands stands_after (pending (jobs_of_end before)) (pending (jobs_of_end after))

-- no pending job is lost from its store
abbrev pub LosesNoJob : (stands stands_after : Option (List Job)) (before after : NodeState) → Type 0
LosesNoJob stands stands_after before after =
    LosesNone stands stands_after (pending (jobs_of_end before)) (pending (jobs_of_end after))

-- each job that has failed since got a notice, and no other did, if the store exposes the notices
pub record TellsFailed (own : Holdings) (told told_after : Option (List ℕ)) (before after : NodeState) : Type 0 where
  pub failed_since : List Job
  pub failed : (jobs_of_end after).failed ≡ (jobs_of_end before).failed ++ failed_since
  pub is : told_after ≡ also_told (notices own failed_since) told

-- ---- the number

-- the number in its file afterwards, if the end keeps one
abbrev pub kept_then : (kept number : Option ℕ) → Option ℕ
kept_then None number = None
kept_then (Some kept) None = Some kept
kept_then (Some kept) (Some number) = Some number

-- if the end kept a number when the session began, its file has the one that it keeps now, as far as the file exposes
-- its text; if the end kept none, the file is unchanged
abbrev pub IsNumberNow : (first now : Option ℕ) (text text_after : Option (List ℕ)) → Type 0
IsNumberNow None now text text_after = text_after ≡ text
IsNumberNow (Some first) None text text_after = ⊤
IsNumberNow (Some first) (Some now) text text_after = text_after ≡ holding_number (Some now) text

-- the file is unchanged, or has the complete line of a number
pub record IsSomeNumber (text text_after : Option (List ℕ)) : Type 0 where
  pub number : Option ℕ
  pub is : text_after ≡ holding_number number text

-- The results of the end so far are on its disk: its jobs are settled, and its file has the number that it keeps.
pub record IsOnDisk (settled : Settled) (now : NodeState) (text : Option (List ℕ)) : Type 0 where
  pub jobs : AreSettled settled (jobs_of_end now)
  pub number : settled.number ≡ kept_then settled.number (number_of_end now)
  pub file : HoldsNumber settled.number text
