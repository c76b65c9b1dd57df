-- Whose the entries of a store are (this project's profile). The giver is the end whose files they are, and the store is
-- that of the other end, the receiver; the receiver's holdings say under which name a file is kept there.
use Rattle.std.specs.Prelude.{◌≡◌, ℕ, List, [], ◌∷◌, Contains, Option, Some, None, slice_get}
use Rattle.uug_conversation.specs.declared.job.Job.{Job}
use Rattle.uug_conversation.specs.declared.job.Job.TheVariants as job
use Rattle.uug_conversation.specs.Choice.{fetched_by}
use Rattle.uug_conversation.specs.Holdings.{File, Kept, Holdings, to_give, kept_as}

-- the entry has the name where one of these Send jobs lands, and the mode and bytes of its file, which may be sent
pub record IsOfSendJob (h others : Holdings) (jobs : List Job) (entry : Kept) : Type 0 where
  pub source : List ℕ
  pub target : List ℕ
  pub user : List ℕ
  pub temp : Option (List ℕ)
  pub file : File
  pub is_job : Contains jobs (job.Send source target user temp)
  pub is_given : to_give h (fetched_by source temp) ≡ Some file
  pub is_entry : entry ≡ kept_as (others.landing source target) file

-- The struck jobs of the giver, which has the first holdings and had these jobs to do, and those of the receiver, which has
-- the others, with the entries of the receiver's store, each list in its order. Each struck Send job of the giver and each
-- struck Request job of the receiver takes one entry for itself: the name where it lands there, and the mode and bytes of
-- its file. The others have theirs in the giver's store. An entry that no struck job takes is of a Send job of the giver.
pub data OwnEntries (h others : Holdings) (jobs : List Job) : (givers receivers : List Job) → (entries : List Kept) → Type 0 where
  none : OwnEntries h others jobs [] [] []
  -- an entry that no struck job takes: its job may still be struck in this session, or have its file stored anew in a
  -- later one
  not_struck : {g r : List Job} {e : List Kept} {entry : Kept} → IsOfSendJob h others jobs entry →
      OwnEntries h others jobs g r e → OwnEntries h others jobs g r (entry ∷ e)
  -- a struck Send job of the giver, with its entry
  sent : {g r : List Job} {e : List Kept} {source target user : List ℕ} {temp : Option (List ℕ)} {file : File} →
      to_give h (fetched_by source temp) ≡ Some file →
      OwnEntries h others jobs g r e → OwnEntries h others jobs (job.Send source target user temp ∷ g) r
      (kept_as (others.landing source target) file ∷ e)
  -- a struck Request job of the receiver, with its entry
  asked_for : {g r : List Job} {e : List Kept} {source target user : List ℕ} {file : File} →
      to_give h source ≡ Some file →
      OwnEntries h others jobs g r e → OwnEntries h others jobs g (job.Request source target user ∷ r)
      (kept_as (others.landing source target) file ∷ e)
  -- a struck job whose entry is in the giver's store
  giver_asked : {g r : List Job} {e : List Kept} {source target user : List ℕ} →
      OwnEntries h others jobs g r e → OwnEntries h others jobs (job.Request source target user ∷ g) r e
  receiver_sent : {g r : List Job} {e : List Kept} {source target user : List ℕ} {temp : Option (List ℕ)} →
      OwnEntries h others jobs g r e → OwnEntries h others jobs g (job.Send source target user temp ∷ r) e

-- ---- the same by places

-- a struck job, by its place in the list of the end whose job it is
pub data Struck : Type 0 where
  by_giver : (place : ℕ) → Struck
  by_receiver : (place : ℕ) → Struck

-- the file that a struck job brought to the store: its name at the giver, and its name there
pub record Brought : Type 0 where
  pub source : List ℕ
  pub target : List ℕ

abbrev pub brought_by_send : (others : Holdings) → Option Job → Option Brought
brought_by_send others (Some (job.Send source target user temp)) =
    Some (record { source = fetched_by source temp; target = others.landing source target })
brought_by_send others _ = None

abbrev pub brought_by_request : (others : Holdings) → Option Job → Option Brought
brought_by_request others (Some (job.Request source target user)) =
    Some (record { source = source; target = others.landing source target })
brought_by_request others _ = None

-- a Send job of the giver and a Request job of the receiver brought one; no other job did
abbrev pub brought : (others : Holdings) → (givers receivers : List Job) → Struck → Option Brought
brought others givers receivers (by_giver i) = brought_by_send others (slice_get givers i)
brought others givers receivers (by_receiver i) = brought_by_request others (slice_get receivers i)

-- Each struck job that brought a file has an entry of its own: the name where it lands by the receiver's holdings, and the mode
-- and bytes of the file that the giver's holdings give. Different jobs have different entries.
pub record HasOwnEntries (h others : Holdings) (givers receivers : List Job) (entries : List Kept) : Type 0 where
  -- where the entry of a struck job stands
  pub place : Struck → ℕ
  pub entry : (job : Struck) (b : Brought) → brought others givers receivers job ≡ Some b →
      (file : File) × (to_give h b.source ≡ Some file) × (slice_get entries (place job) ≡ Some (kept_as b.target file))
  pub own : (job other : Struck) (b c : Brought) → brought others givers receivers job ≡ Some b →
      brought others givers receivers other ≡ Some c → place job ≡ place other → job ≡ other
