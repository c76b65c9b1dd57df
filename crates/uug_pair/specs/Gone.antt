-- A job that is gone from an end's pending jobs, and where its file then is (this project's profile).
use Rattle.std.specs.Prelude.{◌≡◌, ℕ, Contains, List, Some}
use Rattle.uug_conversation.specs.Choice.{fetched_by}
use Rattle.uug_conversation.specs.Holdings.{File, Holdings, Kept, kept_as, to_give}
use Rattle.uug_conversation.specs.Jobs.{Lists, pending}
use Rattle.uug_conversation.specs.Sides.{AtBoth, at}
use Rattle.uug_conversation.specs.Turns.{other}
use Rattle.uug_conversation.specs.declared.job.Job.{Job}
use Rattle.uug_conversation.specs.declared.job.Job.TheVariants as job
use Rattle.uug_conversation.specs.declared.side.Side.{Side}

-- it was pending, and is neither pending nor failed now
pub record IsGone (which : Job) (before now : Lists) : Type 0 where
  pub was_pending : Contains (pending before) which
  pub not_pending : Contains (pending now) which → ⊥
  pub not_failed : Contains now.failed which → ⊥

-- the file that the giver has under this name is among the files that were kept, under the name where it lands
pub record WasKept (h : Holdings) (name landing : List ℕ) (kept : List Kept) : Type 0 where
  pub file : File
  pub is_given : to_give h name ≡ Some file
  pub is_kept : Contains kept (kept_as landing file)

-- The file of a job of the end on this side was kept, complete. A file that the end sends was kept by the other end's
-- spool, and a file that it requests by its own. The holdings of the giving end give the file. The holdings of the
-- keeping end say the name where it lands.
abbrev pub FileWasKept : AtBoth Holdings → (kept : AtBoth (List Kept)) → Side → Job → Type 0
FileWasKept holdings kept side (job.Send source target user temp) =
    WasKept (at side holdings) (fetched_by source temp) ((at (other side) holdings).landing source target) (at (other side) kept)
FileWasKept holdings kept side (job.Request source target user) =
    WasKept (at (other side) holdings) source ((at side holdings).landing source target) (at side kept)
