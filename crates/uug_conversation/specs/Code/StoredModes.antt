-- The modes of the files of a spool in memory are in range, since its type says so.
use Rattle.std.specs.Prelude.{◌≡◌, ℕ, ◌≤◌, Bool, true, false, List, [], ◌∷◌, map, Option, Some, None, if◌then◌else◌}
use Rattle.std.proofs.Common.{subst}
use Rattle.std.specs.Str.{bytes_eq}
use Rattle.uug_talk.specs.declared.mode.TheConstants.{MODE_MAX}
use Rattle.uug_conversation.specs.declared.stored.Stored.{Stored}
use Rattle.uug_conversation.specs.Holdings.{File}
use Rattle.uug_conversation.specs.MemoryHoldings.{first_named, kept_of}

abbrev IsInRange : Option File → Type 0
IsInRange None = Unit {0}
IsInRange (Some file) = file.mode ≤ MODE_MAX

either_in_range : (b : Bool) (x y : Option File) → IsInRange x → IsInRange y → IsInRange (if b then x else y)
either_in_range true x y h k = h
either_in_range false x y h k = k

found_in_range : {A : Type 0} (files : List (Stored A)) (name : List ℕ) → IsInRange (first_named (map kept_of files) name)
found_in_range [] name = tt
found_in_range (f ∷ files) name = either_in_range (bytes_eq f.name name) _ _ f.in_range (found_in_range files name)

pub modes_in_range : {A : Type 0} (files : List (Stored A)) (name : List ℕ) (file : File) → first_named (map kept_of files) name ≡ Some file → file.mode ≤ MODE_MAX
modes_in_range files name file e = subst IsInRange e (found_in_range files name)
