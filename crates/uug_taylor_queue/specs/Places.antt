-- Where a file that another system sends is stored, given the contents of the public folder, and of the listed folders
-- elsewhere, when the session begins (that a folder takes a file under the last part of its source's name, and that
-- missing folders are created, is what Taylor UUCP 1.07 does; which places are barred is this project's profile).
use Rattle.std.specs.List.{ends_with, list_any}
use Rattle.std.specs.Option.{option_map, unwrap_or}
use Rattle.std.specs.Path.{rsplit_once, slash}
use Rattle.std.specs.Prelude.{◌==◌, ◌&&◌, ◌||◌, not, ℕ, Bool, true, false, List, [], ◌∷◌, ◌++◌, length, codes, is_none, nat_eq, string_bytes, drop, Option, Some, None, Result, Ok, Err, if◌then◌else◌}
use Rattle.uug_conversation.specs.MemoryHoldings.{has_name}
use Rattle.uug_talk.specs.Name.{name_of}
use Rattle.uug_taylor_text.specs.SpoolNames.{begins_with, local_name, spot, spot_of}
use Rattle.uug_taylor_text.specs.declared.spool_names.Barred.{Barred}
use Rattle.uug_taylor_text.specs.declared.spool_names.Room.{Room}
use Rattle.uug_taylor_text.specs.declared.spool_names.Room.TheVariants as rooms
use Rattle.uug_taylor_text.specs.declared.spool_names.Spot.{Spot}
use Rattle.uug_taylor_queue.specs.FolderRules.{is_allowed, is_in, is_whole, without_slash}
use Rattle.uug_taylor_queue.specs.declared.places.PublicFolder.{PublicFolder}

-- the public folder, as it is when the session begins
pub record Public : Type 0 where
  -- the paths of the folders below it, and the whole paths of the listed folders elsewhere and of those below them
  pub folders : List (List ℕ)
  -- the paths of everything else in these folders: files, links
  pub others : List (List ℕ)
  -- the paths of the files that can't be replaced, and of the folders in which no file can be stored
  pub barred : List (List ℕ)
  -- no file can be stored there at all
  pub is_closed : Bool
  -- the names of the files that can't be given now, but may be later
  pub delayed : List (List ℕ)
  -- its files could not be listed: each may be given later
  pub is_unknown : Bool
  -- the folders into which the other system may send files
  pub taken : List ℕ

abbrev pub shown_public : {A : Type 0} → PublicFolder A → Public
shown_public p = record { folders = p.folders.items; others = p.others.items; barred = p.barred.items; is_closed = p.is_closed; delayed = p.delayed.items; is_unknown = p.is_unknown; taken = string_bytes p.taken }

-- ---- names

-- the part of a path after its last slash, or all of it
abbrev pub last_part : List ℕ → List ℕ
last_part path = unwrap_or (option_map (λ parts. parts.1) (rsplit_once slash path)) path

abbrev pub is_public : Room → Bool
is_public rooms.Public = true
is_public _ = false

abbrev pub goes_public : Result Spot Barred → Bool
goes_public (Ok target) = is_public target.room
goes_public (Err why) = false

-- a name that a file directly in the public folder can have
abbrev pub is_public_name : List ℕ → Bool
is_public_name name = goes_public (spot_of name) && is_none (rsplit_once slash name)

-- ---- the place

-- no file of this name can be stored directly in the public folder
abbrev pub is_taken : Public → (name : List ℕ) → Bool
is_taken public name = public.is_closed || (has_name public.folders name || has_name public.barred name)

-- directly in the public folder
abbrev pub top_place : Public → (name : List ℕ) → Option Spot
top_place public name =
    if is_public_name name && not (is_taken public name) then Some (spot rooms.Public name) else None

abbrev pub is_public_last : Option (List ℕ) → Bool
is_public_last None = false
is_public_last (Some name) = is_public_name name

-- A path below the public folder is a list of names, separated by slashes. None begins with a dot, a slash or a tilde.
abbrev pub may_begin : (byte : ℕ) → Bool
may_begin byte = not (byte == 46 || (byte == 47 || byte == 126))

abbrev pub is_path_from : (at_start : Bool) → List ℕ → Bool
is_path_from at_start [] = not at_start
is_path_from at_start (byte ∷ bytes) = (not at_start || may_begin byte) && is_path_from (byte == 47) bytes

-- a whole path is such a list behind a slash
abbrev pub is_path : (path : List ℕ) → Bool
is_path path = is_path_from true (if is_whole path then drop 1 path else path)

abbrev pub is_path_by : (path : List ℕ) → Option (List ℕ × List ℕ) → Bool
is_path_by path None = is_public_name path
is_path_by path (Some parts) = is_path parts.0 && is_public_last (name_of parts.1)

-- a file may be given under this path: it is a file's name, or a folder's path, a slash and a file's name
abbrev pub is_public_path : (path : List ℕ) → Bool
is_public_path path = is_path_by path (rsplit_once slash path)

-- something that is not a folder has this path, or one above it
abbrev pub is_blocked : Public → (folder : List ℕ) → Bool
is_blocked public folder = list_any (λ other. is_in other folder) public.others

-- the name is a path below the public folder as it is written
abbrev pub is_home : (name : List ℕ) → Bool
is_home name = begins_with (codes "~/") name

-- The folder is open, and exists or can be created. None is created for another name, such as a whole path.
abbrev pub may_hold : Public → (home : Bool) → (folder : List ℕ) → Bool
may_hold public home folder =
    is_path folder && not (has_name public.barred folder)
    && (has_name public.folders folder || (home && not (public.is_closed || is_blocked public folder)))

-- in a folder below the public folder, or elsewhere
abbrev pub deep_by : Public → (home : Bool) → (name : List ℕ) → Option (List ℕ × List ℕ) → Option Spot
deep_by public home name None = None
deep_by public home name (Some parts) =
    if may_hold public home parts.0
    && (is_public_last (name_of parts.1) && not (has_name public.folders name || has_name public.barred name))
    then Some (spot rooms.Public name) else None

abbrev pub deep_place : Public → (home : Bool) → (name : Option (List ℕ)) → Option Spot
deep_place public home None = None
deep_place public home (Some name) = deep_by public home name (rsplit_once slash name)

-- the name is a path in a listed folder elsewhere
abbrev pub is_elsewhere : Public → (name : List ℕ) → Bool
is_elsewhere public name = list_any (λ folder. is_whole folder && is_in folder name) public.folders

-- the path that a name means
abbrev pub path_in : Public → (name : List ℕ) → List ℕ
path_in public name = if is_elsewhere public name then name else local_name name

abbrev pub placed : Public → (name : List ℕ) → Result Spot Barred → Option Spot
placed public name (Ok target) = if is_public target.room then top_place public target.name else Some target
placed public name (Err why) = deep_place public (is_home name) (name_of (path_in public name))

-- the place of a file that arrives under this name, if it has one
abbrev pub place_in : Public → (name : List ℕ) → Option Spot
place_in public name = placed public name (spot_of name)

abbrev pub takes_at : Public → (place : Option Spot) → Bool
takes_at public None = false
takes_at public (Some target) = if is_public target.room then is_allowed public.taken target.name else true

-- whether the other system may send a file under this name: it must have a place, and in the public folder the list of
-- folders must allow it
abbrev pub takes : Public → (name : List ℕ) → Bool
takes public name = takes_at public (place_in public name)

-- the name that a file of this place has while it is received
abbrev pub temp_name : Spot → List ℕ
temp_name target = unwrap_or (name_of (last_part target.name)) target.name

-- ---- folders elsewhere

abbrev pub elsewhere_at : (path : List ℕ) → Option (List ℕ)
elsewhere_at path = if is_whole path && is_path path then name_of path else None

-- the whole path of a folder of a list, if it is outside the public folder and valid in a session
abbrev pub elsewhere : (folder : List ℕ) → Option (List ℕ)
elsewhere folder = elsewhere_at (without_slash folder)

abbrev pub some_before : Option (List ℕ) → List (List ℕ) → List (List ℕ)
some_before None paths = paths
some_before (Some path) paths = path ∷ paths

-- the folders of a list that are elsewhere
abbrev pub all_elsewhere : (folders : List (List ℕ)) → List (List ℕ)
all_elsewhere [] = []
all_elsewhere (folder ∷ folders) = some_before (elsewhere folder) (all_elsewhere folders)

-- ---- a target that is a folder

abbrev pub is_spooled : Result Spot Barred → Bool
is_spooled (Ok target) = not (is_public target.room)
is_spooled (Err why) = false

-- the prefix of the names in this folder, which is empty for the public folder itself
abbrev pub front_of : (folder : List ℕ) → List ℕ
front_of folder = if length folder == 0 then [] else folder ++ codes "/"

-- it exists, or its path ends in a slash
abbrev pub is_folder_at : Public → (home : Bool) → (path : List ℕ) → Bool
is_folder_at public home path =
    let folder = without_slash path in
    length folder == 0 || (has_name public.folders folder || (home && ends_with nat_eq path (codes "/")))

abbrev pub front_in : Public → (home : Bool) → (path : List ℕ) → Option (List ℕ)
front_in public home path = if is_folder_at public home path then Some (front_of (without_slash path)) else None

-- a path as a name has it
abbrev pub written : (path : List ℕ) → List ℕ
written path = if is_whole path then path else codes "~/" ++ path

abbrev pub landing_by : (source target : List ℕ) → (front : Option (List ℕ)) → List ℕ
landing_by source target None = target
landing_by source target (Some front) = unwrap_or (name_of (written (front ++ last_part source))) target

-- A file sent to the public folder, to a folder below it or elsewhere, or to a path `~/PATH/`, is stored there under the
-- last part of its source's name. Any other target stays as it is, and so does one whose path would be too long.
abbrev pub landing : Public → (source target : List ℕ) → List ℕ
landing public source target =
    if is_spooled (spot_of target) then target
    else landing_by source target (front_in public (is_home target) (path_in public target))
