-- The files that are put in a folder, and the names that a spool over it accepts.
use Rattle.std.specs.Prelude.{◌≡◌, ℕ, Bool, true, false, List, [], ◌∷◌, ◌++◌, Option, Some, None, ⊤, if◌then◌else◌, eqb}
use Rattle.std.specs.List.{list_any}
use Rattle.uug_conversation.specs.declared.verdict.Verdict.TheVariants.{Yes, Never}
use Rattle.uug_conversation.specs.Holdings.{Kept, Holdings}
use Rattle.uug_conversation.specs.MemoryHoldings.{first_named}
use Rattle.uug_talk.specs.declared.gather.TheConstants.{FILE_MAX}

-- a file that was put in a folder; the system decides its mode
pub record Placed : Type 0 where
  pub name : List ℕ
  pub bytes : List ℕ

abbrev pub placed_file : (name bytes : List ℕ) → Placed
placed_file name bytes = record { name = name; bytes = bytes }

-- a kept file, as it is put in the folder
abbrev pub placed_of : Kept → Placed
placed_of k = placed_file k.name k.bytes

-- the files that were put in a folder with this one added at the end, if the folder exposes them
abbrev pub also_placed : Placed → Option (List Placed) → Option (List Placed)
also_placed file None = None
also_placed file (Some files) = Some (files ++ file ∷ [])

-- if the folder exposes the files that were put in it: these were put there last, in this order
abbrev pub EndsWith : Option (List Placed) → List Placed → Type 0
EndsWith None files = ⊤
EndsWith (Some placed) files = (start : List Placed) × (placed ≡ start ++ files)

abbrev begins_with_dot : List ℕ → Bool
begins_with_dot [] = false
begins_with_dot (b ∷ _) = eqb b 46

-- a name with a slash in it leads out of the folder, and one with a dot in front is hidden in it
abbrev pub is_hidden : List ℕ → Bool
is_hidden name = if list_any (λ b. eqb b 47) name then true else begins_with_dot name

-- A file of a hidden name is never taken. It can't be put in its place, nor can a file of a name that the folder bars.
-- A file is kept under its target name. No file is delayed or resumed. The end is not lenient, and announces no
-- digests.
abbrev pub folder_holdings : (barred : List ℕ → Bool) → List Kept → Holdings
folder_holdings barred files = record {
  file = first_named files;
  delayed = λ name. false;
  verdict = λ name. if is_hidden name then Never else Yes;
  immovable = λ name. if is_hidden name then true else barred name;
  landing = λ source target. target;
  partials = None;
  lenient = false;
  digests = false;
  limit = FILE_MAX;
}
