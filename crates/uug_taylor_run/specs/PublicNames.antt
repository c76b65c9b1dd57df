-- The public folder, and how the jobs of a spool name its files (that the folder is beside the spool, and that jobs
-- have its path, is Taylor UUCP's; the rest is this project's profile).
use Rattle.std.specs.Borrow.{Bor}
use Rattle.std.specs.List.{ends_with, list_all, starts_with}
use Rattle.std.specs.Option.{option_map, unwrap_or}
use Rattle.std.specs.Path.{rsplit_once, slash}
use Rattle.std.specs.Prelude.{◌&&◌, ◌==◌, ◌≡◌, ◌-◌, ℕ, Bool, true, false, List, ◌++◌, length, take, drop, map, codes, nat_eq, Option, Some, None, if◌then◌else◌}
use Rattle.uug_conversation.specs.declared.job.Job.{Job}
use Rattle.uug_conversation.specs.declared.job.Job.TheVariants.{Request, Send}
use Rattle.uug_conversation.specs.declared.stored.Stored.{Stored}
use Rattle.uug_taylor_queue.specs.declared.open_line.OpenLine.{OpenLine}
use Rattle.uug_taylor_queue.specs.FolderRules.{is_allowed}
use Rattle.uug_taylor_queue.specs.Places.{is_public_path}
use Rattle.uug_taylor_text.specs.SpoolNames.{begins_with}
use Rattle.uug_talk.specs.Name.{name_of}

-- ---- where it is

abbrev pub without_slash : (path : List ℕ) → List ℕ
without_slash path = if ends_with nat_eq path (codes "/") then take (length path - 1) path else path

abbrev pub folder_by : (parts : Option (List ℕ × List ℕ)) → Option (List ℕ)
folder_by None = None
folder_by (Some parts) = if length parts.1 == 0 then None else Some parts.0

-- the path of the folder that holds a spool, if the spool's path is absolute and ends in a name
abbrev pub folder_of : (spool : List ℕ) → Option (List ℕ)
folder_of spool = if starts_with nat_eq spool (codes "/") then folder_by (rsplit_once slash spool) else None

abbrev pub public_in : (spool : List ℕ) (folder : Option (List ℕ)) → List ℕ
public_in spool None = spool ++ codes "/../uucppublic"
public_in spool (Some folder) = folder ++ codes "/uucppublic"

-- the public folder beside a spool
abbrev pub public_beside : (spool : List ℕ) → List ℕ
public_beside spool = public_in spool (folder_of spool)

-- the public folder that is named, or else the one beside the spool
abbrev pub public_path : (spool : List ℕ) (named : Option (Bor (List ℕ))) → List ℕ
public_path spool None = public_beside spool
public_path spool (Some named) = without_slash named.now

-- ---- names in it

-- the rest of a name after the path of the public folder, the slash first
abbrev pub behind_public : (public name : List ℕ) → Option (List ℕ)
behind_public public name =
    let rest = drop (length public) name in
    if starts_with nat_eq name public && starts_with nat_eq rest (codes "/") then Some rest else None

abbrev pub named_by : (name : List ℕ) (behind : Option (List ℕ)) → List ℕ
named_by name None = name
named_by name (Some rest) = unwrap_or (name_of (codes "~" ++ rest)) name

-- A session writes ~ for the path of the public folder. Any other name stays as it is, and so does one that would be
-- too long.
abbrev pub public_name : (public name : List ℕ) → List ℕ
public_name public name = named_by name (behind_public public name)

-- ---- the files in it

-- A file is given under its name in the public folder, under ~/ and its path if it is in a folder there, or under its
-- whole path if it is in a listed folder elsewhere.
abbrev pub path_of : (name : List ℕ) → Option (List ℕ)
path_of name = name_of (if begins_with (codes "~/") name then drop 2 name else name)

abbrev pub is_given_at : (folders : List ℕ) (path : Option (List ℕ)) → Bool
is_given_at folders None = false
is_given_at folders (Some path) = is_public_path path && is_allowed folders path

-- a file is given if its path is valid in a session and the list of folders allows it
abbrev pub is_given : (folders name : List ℕ) → Bool
is_given folders name = is_given_at folders (path_of name)

-- its mode is octal 644: everybody may read it
abbrev pub is_public_file : {A : Type 0} → (folders : List ℕ) → Stored A → Bool
is_public_file folders file = is_given folders file.name && file.mode == 420

-- The files that an end gives for its jobs stay first. Only files that may be given are appended.
pub record AddsPublic {A : Type 0} (folders : List ℕ) (files files_after : List (Stored A)) : Type 0 where
  pub more : List (Stored A)
  pub is_all : files_after ≡ files ++ more
  pub are_public : list_all (is_public_file folders) more ≡ true

-- ---- the jobs

-- the target of a request is written as a session writes it
abbrev pub named_job : (public : List ℕ) → Job → Job
named_job public (Request source target user) = Request source (public_name public target) user
named_job public (Send source target user temp) = Send source target user temp

abbrev pub named_line : (public : List ℕ) → OpenLine → OpenLine
named_line public line = record { file = line.file; number = line.number; copy = line.copy; job = option_map (named_job public) line.job }

abbrev pub named_lines : (public : List ℕ) → List OpenLine → List OpenLine
named_lines public lines = map (named_line public) lines
