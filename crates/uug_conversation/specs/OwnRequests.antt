-- What an end keeps for the Request jobs that it strikes, whatever the other end is and does (this project's profile).
use Rattle.std.specs.Prelude.{◌≡◌, ℕ, List, [], ◌∷◌, ◌++◌, Option}
use Rattle.uug_conversation.specs.declared.job.Job.{Job}
use Rattle.uug_conversation.specs.declared.job.Job.TheVariants as job
use Rattle.uug_conversation.specs.Holdings.{Holdings, Kept}

-- Struck jobs of an end that has these holdings, and entries of its own store, each list in its order. Each Request job takes
-- one entry of the name where it lands for itself, so different ones have different entries. What a Send job brought is in the
-- other end's store.
pub data OwnRequestEntries (h : Holdings) : (struck : List Job) (entries : List Kept) → Type 0 where
  none : OwnRequestEntries h [] []
  -- an entry that no struck job takes: a file that the other end sent
  not_asked_for : {s : List Job} {e : List Kept} {entry : Kept} → OwnRequestEntries h s e → OwnRequestEntries h s (entry ∷ e)
  -- a struck Request job, with its entry
  asked_for : {s : List Job} {e : List Kept} {entry : Kept} {source target user : List ℕ} → entry.name ≡ h.landing source target →
      OwnRequestEntries h s e → OwnRequestEntries h (job.Request source target user ∷ s) (entry ∷ e)
  -- a struck Send job
  sent : {s : List Job} {e : List Kept} {source target user : List ℕ} {temp : Option (List ℕ)} →
      OwnRequestEntries h s e → OwnRequestEntries h (job.Send source target user temp ∷ s) e

-- From one time to a later one: what was kept and what was struck stay in front, and each Request job that was struck
-- since has an entry of its own in what was kept since.
pub record KeepsWhatItAskedFor (h : Holdings) (struck struck_after : List Job) (kept kept_after : List Kept) : Type 0 where
  pub struck_since : List Job
  pub kept_since : List Kept
  pub strikes : struck_after ≡ struck ++ struck_since
  pub keeps : kept_after ≡ kept ++ kept_since
  pub own : OwnRequestEntries h struck_since kept_since
