-- The modes of the files that are given are in range, as their type says.
use Rattle.std.specs.Prelude.{◌≡◌, ℕ, ◌≤◌, Bool, List, Option, Some, None, map, ⊤}
use Rattle.std.proofs.Common.{refl, subst}
use Rattle.uug_talk.specs.declared.mode.TheConstants.{MODE_MAX}
use Rattle.uug_conversation.specs.Code.StoredModes.{modes_in_range}
use Rattle.uug_conversation.specs.Holdings.{AreModes, File}
use Rattle.uug_conversation.specs.MemoryHoldings.{first_named, kept_of}
use Rattle.uug_conversation.specs.Partial.{Partial}
use Rattle.uug_conversation.specs.declared.stored.Stored.{Stored}
use Rattle.uug_store.specs.LocalNames.{local_source}
use Rattle.uug_taylor_queue.specs.MailHoldings.{file_at, given_by, mail_holdings}
use Rattle.uug_taylor_queue.specs.Places.{Public}

abbrev IsInRange : Option File → Type 0
IsInRange None = ⊤
IsInRange (Some file) = file.mode ≤ MODE_MAX

in_range : (found : Option File) → ((file : File) → found ≡ Some file → file.mode ≤ MODE_MAX) → IsInRange found
in_range None modes = tt
in_range (Some file) modes = modes file refl

found_in_range : {A : Type 0} (files : List (Stored A)) (name : List ℕ) → IsInRange (first_named (map kept_of files) name)
found_in_range files name = in_range (first_named (map kept_of files) name) (modes_in_range files name)

at_in_range : {A : Type 0} (files : List (Stored A)) (name : Option (List ℕ)) → IsInRange (file_at (map kept_of files) name)
at_in_range files None = tt
at_in_range files (Some name) = found_in_range files name

by_in_range : {A : Type 0} (files : List (Stored A)) (name : List ℕ) (found : Option File) → IsInRange found
    → IsInRange (given_by (map kept_of files) name found)
by_in_range files name None h = at_in_range files (local_source name)
by_in_range files name (Some file) h = h

pub mail_modes : {A : Type 0} (lenient digests : Bool) (limit : ℕ) (public : Public) (partials : Option (List Partial)) (files : List (Stored A))
    → AreModes (mail_holdings lenient digests limit public partials (map kept_of files))
mail_modes lenient digests limit public partials files name file found =
    subst IsInRange found (by_in_range files name (first_named (map kept_of files) name) (found_in_range files name))
