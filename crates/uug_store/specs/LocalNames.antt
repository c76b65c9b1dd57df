-- The names in a folder, called local names, of the files that a real system names (this project's profile).
use Rattle.std.specs.Prelude.{◌≡◌, ℕ, Bool, true, false, List, [], ◌∷◌, drop, codes, nat_eq, Option, Some, None, map, if◌then◌else◌}
use Rattle.std.specs.List.{starts_with}
use Rattle.std.specs.Option.{option_map_or}
use Rattle.std.specs.Path.{rsplit_once, slash}
use Rattle.uug_conversation.specs.Holdings.{File, Holdings, Kept, kept_file}
use Rattle.uug_conversation.specs.MemoryHoldings.{has_name, kept_of}
use Rattle.uug_conversation.specs.Partial.{Partial}
use Rattle.uug_conversation.specs.declared.verdict.Verdict.{Verdict}
use Rattle.uug_conversation.specs.declared.verdict.Verdict.TheVariants.{Never}
use Rattle.uug_talk.specs.Name.{name_of}
use Rattle.uug_store.specs.Folders.{folder_holdings, is_hidden}
use Rattle.uug_store.specs.LocalFiles.{LocalFiles}

-- The public folder of a real system, and its root, are the folder here: their prefix is dropped from a name.
abbrev pub behind_root : List ℕ → List ℕ
behind_root name =
    if starts_with nat_eq name (codes "~/") then drop 2 name else
    (if starts_with nat_eq name (codes "/") then drop 1 name else name)

-- the local name, if it is a valid name
abbrev pub local_name : List ℕ → Option (List ℕ)
local_name name = name_of (behind_root name)

-- A name with a slash left in it leads out of the folder, and one with a dot in front is hidden there.
abbrev pub in_folder : Option (List ℕ) → Option (List ℕ)
in_folder None = None
in_folder (Some name) = if is_hidden name then None else Some name

-- the local name of a file that is requested
abbrev pub local_source : List ℕ → Option (List ℕ)
local_source name = in_folder (local_name name)

abbrev pub file_by : Holdings → Option (List ℕ) → Option File
file_by h None = None
file_by h (Some name) = h.file name

-- whether the file of this name may be given later
abbrev pub delayed_by : (delayed : List (List ℕ)) → Option (List ℕ) → Bool
delayed_by delayed None = false
delayed_by delayed (Some name) = has_name delayed name

abbrev pub verdict_by : Holdings → Option (List ℕ) → Verdict
verdict_by h None = Never
verdict_by h (Some name) = h.verdict name

abbrev pub immovable_by : Holdings → Option (List ℕ) → Bool
immovable_by h None = true
immovable_by h (Some name) = h.immovable name

-- the part of a name after the last slash
abbrev pub last_part : List ℕ → List ℕ
last_part name = option_map_or (λ parts. parts.1) (rsplit_once slash name) name

-- the name where a file lands, by the target without its prefix, and by the source's last part, if that is a name
abbrev pub landing_by : (behind : List ℕ) → (part : Option (List ℕ)) → (target : List ℕ) → List ℕ
landing_by [] (Some part) target = part
landing_by [] None target = target
landing_by (b ∷ behind) part target = target

-- A file that is sent to the public folder itself, or to the root, lands there under the last part of its own name, if
-- that is a name.
abbrev pub local_landing : (source target : List ℕ) → List ℕ
local_landing source target = landing_by (behind_root target) (name_of (last_part source)) target

-- A file is given and taken as the folder gives and takes its local name. So no file is given or taken whose local name
-- has a slash left, or a dot in front.
abbrev pub local_holdings : (lenient digests : Bool) → (limit : ℕ) → (delayed : List (List ℕ)) → (partials : Option (List Partial)) → Holdings → Holdings
local_holdings lenient digests limit delayed partials h = record {
  file = λ name. file_by h (local_source name);
  delayed = λ name. delayed_by delayed (local_source name);
  verdict = λ name. verdict_by h (local_name name);
  immovable = λ name. immovable_by h (local_name name);
  landing = local_landing;
  partials = partials;
  lenient = lenient;
  digests = digests;
  limit = limit;
}

-- the files that were kept, each under the name under which it arrived
abbrev pub renamed : (names : List (List ℕ)) → List Kept → List Kept
renamed [] files = []
renamed (name ∷ names) [] = []
renamed (name ∷ names) (file ∷ files) = kept_file name file.mode file.bytes ∷ renamed names files

-- each file is in the folder under the local name of the name under which it arrived
abbrev pub StandUnder : (names : List (List ℕ)) → List Kept → Type 0
StandUnder names files = map local_name names ≡ map (λ (file : Kept). Some file.name) files

-- what the spool gives and accepts, if the folder bars these names
abbrev pub holdings_here : {F A : Type 0} → (barred : F → List ℕ → Bool) → LocalFiles F A → Holdings
holdings_here barred s = local_holdings s.lenient s.digests s.limit.bytes s.delayed s.partials (folder_holdings (barred s.files.folder) (map kept_of s.files.files))

abbrev pub kept_here : {F A : Type 0} → LocalFiles F A → List Kept
kept_here s = renamed s.names s.files.stored
