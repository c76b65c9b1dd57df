-- The result of a run that is not given up (this project's profile).
use Rattle.std.specs.Prelude.{◌≡◌, ◌⊎◌, ℕ, List, Option, max}
use Rattle.uug_conversation.specs.declared.side.Side.{Side}
use Rattle.uug_conversation.specs.declared.side.Side.TheVariants.{Caller, Called}
use Rattle.uug_transfer.specs.Reported.{IsReported}

-- another run talks with the system, and nothing was printed: this one is to call later
pub record CallsAgain (status : ℕ) (written written_after : Option (List ℕ)) : Type 0 where
  pub status_is : status ≡ 1
  pub silent : written_after ≡ written

-- The reports are printed of sessions of an end on this side, one or more, one behind the other, each run to its end. The status
-- is the greatest of theirs.
pub data AreReported (side : Side) : (status : ℕ) → (written written_after : Option (List ℕ)) → Type 0 where
  one_session : {status : ℕ} {before after : Option (List ℕ)}
      → IsReported side status before after → AreReported side status before after
  session_more : {status next : ℕ} {before between after : Option (List ℕ)}
      → AreReported side status before between → IsReported side next between after → AreReported side (max status next) before after

-- by the side of the end: the report is printed of a caller that has run its session to its end, or those of a called end
abbrev pub AreTold : (side : Side) (status : ℕ) (written written_after : Option (List ℕ)) → Type 0
AreTold Caller status written written_after = IsReported Caller status written written_after
AreTold Called status written written_after = AreReported Called status written written_after

-- that, or the end is to call later
abbrev pub HasCalled : (side : Side) (status : ℕ) (written written_after : Option (List ℕ)) → Type 0
HasCalled side status written written_after = AreTold side status written written_after ⊎ CallsAgain status written written_after

-- by the side of the end: a caller has called, or sessions of a called end are reported
abbrev pub HasTalked : (side : Side) (status : ℕ) (written written_after : Option (List ℕ)) → Type 0
HasTalked Caller status written written_after = HasCalled Caller status written written_after
HasTalked Called status written written_after = AreReported Called status written written_after
