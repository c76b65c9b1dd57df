-- An end as it comes to a session (this project's profile).
use Rattle.std.specs.Prelude.{◌≡◌, ◌<◌, ◌≤◌, ℕ, List, length, All, Some}
use Rattle.uug_conversation.specs.declared.job.Job.{Job}
use Rattle.uug_conversation.specs.declared.job.Job.TheVariants as job
use Rattle.uug_conversation.specs.Holdings.{File, Holdings, AreModes, IsLimit, to_give}
use Rattle.uug_conversation.specs.Partials.{none_of}
use Rattle.uug_conversation.specs.Resuming.{IsFront, front_held}
use Rattle.uug_talk.specs.Chunks.{Measure}
use Rattle.uug_talk.specs.Order.{AreNames, IsCopy}

pub record Party : Type 0 where
  -- its pending jobs
  pub jobs : List Job
  -- what its spool gives and accepts
  pub holdings : Holdings
  -- how it cuts its own messages: their size is the one that the other end announced
  pub measure : Measure

-- the names of a job are names
abbrev pub HasNames : Job → Type 0
HasNames (job.Send source target user temp) = AreNames source target user × IsCopy temp
HasNames (job.Request source target user) = AreNames source target user

pub record IsSound (p : Party) : Type 0 where
  pub names : All HasNames p.jobs
  pub modes : AreModes p.holdings
  pub limit : IsLimit p.holdings.limit
  pub size : 0 < p.measure.size

-- nothing is held of a file of an earlier session
abbrev pub HoldsNone : Holdings → Type 0
HoldsNone h = h.partials ≡ none_of h.partials

-- what the taker holds of each file of the giver is a front of it
abbrev pub HoldsFronts : (giver taker : Holdings) → Type 0
HoldsFronts giver taker = (source : List ℕ) (file : File) → to_give giver source ≡ Some file →
    IsFront (front_held taker giver.digests source (Some file)) file.bytes

-- no file of the giver is too large for the taker
abbrev pub TakesSizes : (giver taker : Holdings) → Type 0
TakesSizes giver taker = (source : List ℕ) (file : File) → to_give giver source ≡ Some file → length file.bytes ≤ taker.limit

-- what each of two ends holds of the other's files, and that none of them is too large for it
pub record Suit (a b : Party) : Type 0 where
  pub of_caller : HoldsFronts a.holdings b.holdings
  pub of_called : HoldsFronts b.holdings a.holdings
  pub sizes_of_caller : TakesSizes a.holdings b.holdings
  pub sizes_of_called : TakesSizes b.holdings a.holdings
