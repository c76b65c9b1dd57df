-- The operations on the folders of a spool, one after the other (this project's profile).
use Rattle.std.specs.Prelude.{◌≡◌, ◌⊎◌, ◌<◌, ℕ, List, [], ◌∷◌, ◌++◌, Option, Some, None}
use Rattle.uug_taylor_text.specs.declared.spool_names.Room.{Room}
use Rattle.uug_taylor_text.specs.declared.spool_names.Spot.{Spot}

pub data Op : Type 0 where
  made : Spot → (bytes : List ℕ) → Op
  synced : Spot → Op
  renamed : (from to : Spot) → Op
  unlinked : Spot → Op
  folder_synced : Room → Op

-- one more operation, if a disk reports its operations
abbrev pub also_done : Op → Option (List Op) → Option (List Op)
also_done op None = None
also_done op (Some ops) = Some (ops ++ op ∷ [])

-- all of these operations, in this order
abbrev pub also_all : List Op → Option (List Op) → Option (List Op)
also_all [] before = before
also_all (op ∷ ops) before = also_all ops (also_done op before)

-- none, some or all of these operations, from the first one on and in this order
abbrev pub FrontDone : List Op → (before after : Option (List Op)) → Type 0
FrontDone [] before after = after ≡ before
FrontDone (op ∷ ops) before after = (after ≡ before) ⊎ FrontDone ops (also_done op before) after

-- appended to the notices, if a disk reports them
abbrev pub also_told : List ℕ → Option (List ℕ) → Option (List ℕ)
also_told more None = None
also_told more (Some text) = Some (text ++ more)

-- none, some or all of these bytes were appended to the notices, from the first one on
pub record TellsSome (more : List ℕ) (told told_after : Option (List ℕ)) : Type 0 where
  pub front : List ℕ
  pub rest : List ℕ
  pub begins : more ≡ front ++ rest
  pub is : told_after ≡ also_told front told

-- a disk's count of faults has risen, or is at its maximum
abbrev pub HasFault : (most faults faults_after : ℕ) → Type 0
HasFault most faults faults_after = (faults < faults_after) ⊎ (faults ≡ most)
