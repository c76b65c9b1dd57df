-- What an end over a spool gives and takes (this project's profile).
use Rattle.std.specs.Prelude.{◌||◌, ℕ, Bool, false, List, is_none, Option, Some, None, if◌then◌else◌}
use Rattle.uug_conversation.specs.Holdings.{File, Holdings, Kept}
use Rattle.uug_conversation.specs.MemoryHoldings.{first_named, has_name}
use Rattle.uug_conversation.specs.Partial.{Partial}
use Rattle.uug_conversation.specs.declared.verdict.Verdict.TheVariants.{Never, Yes}
use Rattle.uug_store.specs.LocalNames.{local_source}
use Rattle.uug_taylor_queue.specs.Places.{Public, is_public_path, landing, place_in, takes}
use Rattle.uug_taylor_text.specs.SpoolNames.{local_name}
use Rattle.uug_talk.specs.Name.{name_of}

abbrev pub file_at : List Kept → Option (List ℕ) → Option File
file_at files None = None
file_at files (Some name) = first_named files name

-- the file of exactly this name, which is that of a copy or a path, or else the file of this name in the public folder
abbrev pub given_by : List Kept → (name : List ℕ) → Option File → Option File
given_by files name None = file_at files (local_source name)
given_by files name (Some file) = Some file

abbrev pub given : List Kept → (name : List ℕ) → Option File
given files name = given_by files name (first_named files name)

-- whether the file requested by this name, at this path in the public folder, may be given later
abbrev pub delayed_in : Public → (name : List ℕ) → (path : Option (List ℕ)) → Bool
delayed_in public name None = false
delayed_in public name (Some path) =
    if public.is_unknown then is_public_path path else (has_name public.delayed path || has_name public.delayed name)

-- a name without a place is refused
abbrev pub is_refused : Public → (name : List ℕ) → Bool
is_refused public name = is_none (place_in public name)

abbrev pub mail_holdings : (lenient digests : Bool) → (limit : ℕ) → Public → (partials : Option (List Partial)) → List Kept → Holdings
mail_holdings lenient digests limit public partials files = record {
  file = given files;
  delayed = λ name. delayed_in public name (name_of (local_name name));
  verdict = λ name. if takes public name then Yes else Never;
  immovable = is_refused public;
  landing = landing public;
  partials = partials;
  lenient = lenient;
  digests = digests;
  limit = limit;
}
