-- The order of the disk operations that put a file in its place (this project's profile).
use Rattle.std.specs.Prelude.{ℕ, List, [], ◌∷◌}
use Rattle.uug_taylor_text.specs.Operations.{Op, folder_synced, made, renamed, synced, unlinked}
use Rattle.uug_taylor_text.specs.SpoolNames.{spot}
use Rattle.uug_taylor_text.specs.declared.spool_names.Room.TheVariants as rooms
use Rattle.uug_taylor_text.specs.declared.spool_names.Spot.{Spot}

-- a file is renamed only after it and its marker were written and synced
abbrev pub stored_ops : (temp : List ℕ) (target : Spot) (text bytes : List ℕ) → List Op
stored_ops temp target text bytes =
    unlinked (spot rooms.Temporary temp) ∷ made (spot rooms.Temporary temp) bytes ∷ synced (spot rooms.Temporary temp)
    ∷ made (spot rooms.Marked temp) text ∷ synced (spot rooms.Marked temp) ∷ folder_synced rooms.Marked
    ∷ renamed (spot rooms.Temporary temp) target ∷ folder_synced target.room ∷ folder_synced rooms.Temporary ∷ []

-- the rest of these operations, for a file that was complete with its marker when they were stopped
abbrev pub finished_ops : (temp : List ℕ) → (target : Spot) → List Op
finished_ops temp target =
    renamed (spot rooms.Temporary temp) target ∷ folder_synced target.room ∷ folder_synced rooms.Temporary ∷ []

-- a file replaces another only after its bytes were synced
abbrev pub replaced_ops : (target : Spot) (bytes : List ℕ) → List Op
replaced_ops target bytes =
    unlinked (spot rooms.Temporary target.name) ∷ made (spot rooms.Temporary target.name) bytes
    ∷ synced (spot rooms.Temporary target.name) ∷ renamed (spot rooms.Temporary target.name) target
    ∷ folder_synced target.room ∷ []
