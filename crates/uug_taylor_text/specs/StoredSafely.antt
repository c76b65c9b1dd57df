-- What a power cut leaves of a received file (this project's profile).
use Rattle.std.specs.Prelude.{ℕ, Bool, true, false, List, Option}
use Rattle.uug_taylor_text.specs.DiskOrder.{stored_ops}
use Rattle.uug_taylor_text.specs.Operations.{Op}
use Rattle.uug_taylor_text.specs.SpoolNames.{spot}
use Rattle.uug_taylor_text.specs.Standings.{AfterEach, IsBeforeOrWhole, IsMarked, IsWholeThere, Standing, ToldSince, after_all}
use Rattle.uug_taylor_text.specs.declared.spool_names.Room.{Room}
use Rattle.uug_taylor_text.specs.declared.spool_names.Room.TheVariants as rooms
use Rattle.uug_taylor_text.specs.declared.spool_names.Spot.{Spot}

-- a folder in which a file can have its place
abbrev pub is_place : Room → Bool
is_place rooms.Commands = true
is_place rooms.Data = true
is_place rooms.Text = true
is_place rooms.Execution = true
is_place rooms.Public = true
is_place rooms.Temporary = false
is_place rooms.Marked = false
is_place rooms.Preserved = true

-- wherever this is stopped, the place holds what it held before, or the complete file; a new file is never there
-- without its marker; and once all is done, the complete file is there
pub record StoredSafely (temp : List ℕ) (target : Spot) (text bytes : List ℕ) (s : Standing) : Type 0 where
  pub any_front : AfterEach (IsBeforeOrWhole s target bytes) (stored_ops temp target text bytes) s
  pub marked : AfterEach (IsMarked s target (spot rooms.Marked temp) text) (stored_ops temp target text bytes) s
  pub whole : IsWholeThere target bytes (after_all (stored_ops temp target text bytes) s)

-- the same for a disk that reports its operations
abbrev pub StaysSafe : (target : Spot) → (bytes : List ℕ) → (before now : Option (List Op)) → Type 0
StaysSafe target bytes before now = ToldSince (λ s. IsBeforeOrWhole s target bytes) before now

abbrev pub StaysMarked : (temp : List ℕ) → (target : Spot) → (text : List ℕ) → (before now : Option (List Op)) → Type 0
StaysMarked temp target text before now = ToldSince (λ s. IsMarked s target (spot rooms.Marked temp) text) before now
