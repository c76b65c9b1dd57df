-- The modes of the files that are given are in range if those of the files in the folder are.
use Rattle.std.specs.Prelude.{◌≡◌, ℕ, ◌≤◌, Bool, List, Option, Some, None, ⊤}
use Rattle.std.proofs.Common.{refl, subst}
use Rattle.uug_talk.specs.declared.mode.TheConstants.{MODE_MAX}
use Rattle.uug_conversation.specs.Holdings.{AreModes, File, Holdings}
use Rattle.uug_conversation.specs.Partial.{Partial}
use Rattle.uug_store.specs.LocalNames.{file_by, local_holdings, local_source}

abbrev IsInRange : Option File → Type 0
IsInRange None = ⊤
IsInRange (Some file) = file.mode ≤ MODE_MAX

in_range : (found : Option File) → ((file : File) → found ≡ Some file → file.mode ≤ MODE_MAX) → IsInRange found
in_range None modes = tt
in_range (Some file) modes = modes file refl

given_in_range : (h : Holdings) → AreModes h → (source : Option (List ℕ)) → IsInRange (file_by h source)
given_in_range h modes None = tt
given_in_range h modes (Some name) = in_range (h.file name) (modes name)

pub local_modes : (lenient digests : Bool) (limit : ℕ) (delayed : List (List ℕ)) (partials : Option (List Partial)) (h : Holdings) → AreModes h
    → AreModes (local_holdings lenient digests limit delayed partials h)
local_modes lenient digests limit delayed partials h modes name file found = subst IsInRange found (given_in_range h modes (local_source name))
