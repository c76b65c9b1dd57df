-- The files of a spool in memory hold bytes, since their type says so.
use Rattle.std.specs.Prelude.{◌≡◌, ℕ, Bool, true, false, List, [], ◌∷◌, map, Option, Some, None, if◌then◌else◌}
use Rattle.std.proofs.Common.{subst}
use Rattle.std.specs.Str.{bytes_eq}
use Rattle.uug_packet.specs.Bytes.{AreBytes}
use Rattle.uug_conversation.specs.declared.stored.Stored.{Stored}
use Rattle.uug_conversation.specs.Holdings.{File}
use Rattle.uug_conversation.specs.MemoryHoldings.{first_named, kept_of}

abbrev HasBytes : Option File → Type 0
HasBytes None = Unit {0}
HasBytes (Some file) = AreBytes file.bytes

either_has_bytes : (b : Bool) (x y : Option File) → HasBytes x → HasBytes y → HasBytes (if b then x else y)
either_has_bytes true x y h k = h
either_has_bytes false x y h k = k

found_has_bytes : {A : Type 0} (files : List (Stored A)) (name : List ℕ) → HasBytes (first_named (map kept_of files) name)
found_has_bytes [] name = tt
found_has_bytes (f ∷ files) name = either_has_bytes (bytes_eq f.name name) _ _ f.of_bytes (found_has_bytes files name)

pub stored_bytes : {A : Type 0} (files : List (Stored A)) (name : List ℕ) (file : File) → first_named (map kept_of files) name ≡ Some file → AreBytes file.bytes
stored_bytes files name file e = subst HasBytes e (found_has_bytes files name)
