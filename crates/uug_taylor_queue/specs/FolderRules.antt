-- Says which files a list of folders allows (that the last folder that holds a file decides, and that an exclamation
-- mark bars a folder, is Taylor UUCP's; that ~ holds nothing outside the public folder is this project's profile).
use Rattle.std.specs.List.{ends_with}
use Rattle.std.specs.Prelude.{◌==◌, ◌-◌, ◌&&◌, ◌||◌, not, ℕ, Bool, false, List, [], ◌∷◌, length, take, drop, codes, nat_eq, if◌then◌else◌}
use Rattle.std.specs.Str.{bytes_eq}
use Rattle.uug_taylor_text.specs.SpoolNames.{begins_with}
use Rattle.uug_talk.specs.Words.{words}

-- a name without a slash at its end
abbrev pub without_slash : List ℕ → List ℕ
without_slash name = if ends_with nat_eq name (codes "/") then take (length name - 1) name else name

-- a path is the folder itself, or continues with a slash after it
abbrev pub is_in : (folder path : List ℕ) → Bool
is_in folder path =
    let rest = drop (length folder) path in
    begins_with folder path && (length rest == 0 || begins_with (codes "/") rest)

-- A whole path begins with a slash. Any other path is below the public folder.
abbrev pub is_whole : (path : List ℕ) → Bool
is_whole path = begins_with (codes "/") path

-- ~ and ~/ are the public folder, and ~/PATH is a folder below it
abbrev pub holds_below : (folder path : List ℕ) → Bool
holds_below folder path =
    if begins_with (codes "~/") folder then (length folder == 2 || is_in (without_slash (drop 2 folder)) path)
    else bytes_eq folder (codes "~")

-- a folder outside the public folder is named by its whole path
abbrev pub holds : (folder path : List ℕ) → Bool
holds folder path =
    if is_whole folder then is_in (without_slash folder) path
    else (not (is_whole path) && holds_below folder path)

abbrev pub after_rule : (before : Bool) → (rule path : List ℕ) → Bool
after_rule before rule path =
    if begins_with (codes "!") rule then (before && not (holds (drop 1 rule) path)) else (before || holds rule path)

abbrev pub allowed_by : (before : Bool) → (rules : List (List ℕ)) → (path : List ℕ) → Bool
allowed_by before [] path = before
allowed_by before (rule ∷ rules) path = allowed_by (after_rule before rule path) rules path

-- The last folder of the list that holds the path decides, and a path that none holds is not allowed.
abbrev pub is_allowed : (folders path : List ℕ) → Bool
is_allowed folders path = allowed_by false (words folders) path
