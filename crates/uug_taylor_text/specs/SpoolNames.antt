-- The names of the files of a spool (as Taylor UUCP 1.07 has them; which names are barred is this project's profile).
use Rattle.std.specs.Prelude.{◌==◌, ◌&&◌, ◌||◌, not, ℕ, Bool, false, List, [], ◌∷◌, ◌++◌, length, take, drop, codes, nat_eq, nat_lt, nat_le, Result, Ok, Err, if◌then◌else◌}
use Rattle.std.specs.List.{list_any, starts_with}
use Rattle.uug_talk.specs.Name.{name_read}
use Rattle.uug_talk.specs.declared.error.BadText.{BadText}
use Rattle.uug_taylor_text.specs.declared.spool_names.Barred.{Barred}
use Rattle.uug_taylor_text.specs.declared.spool_names.Barred.TheVariants as barred
use Rattle.uug_taylor_text.specs.declared.spool_names.Room.{Room}
use Rattle.uug_taylor_text.specs.declared.spool_names.Room.TheVariants as rooms
use Rattle.uug_taylor_text.specs.declared.spool_names.Spot.{Spot}
use Rattle.uug_taylor_text.specs.declared.spool_names.TheConstants.{OWN_DATA_MAX, OWN_TEXT_MAX}

abbrev pub begins_with : (front name : List ℕ) → Bool
begins_with front name = starts_with nat_eq name front

abbrev pub has_slash : List ℕ → Bool
has_slash name = list_any (λ b. b == 47) name

-- two dots are side by side somewhere
abbrev pub has_two_dots : List ℕ → Bool
has_two_dots [] = false
has_two_dots (b ∷ bs) = begins_with (codes "..") (b ∷ bs) || has_two_dots bs

-- ---- the place of a file that another system sends

abbrev pub spot : Room → List ℕ → Spot
spot room name = record { room = room; name = name }

-- in the spool; names of at most `own_max` bytes are those of this system's own data
abbrev pub spool_spot : Room → (own_max : ℕ) → List ℕ → Result Spot Barred
spool_spot room own_max name =
    if has_slash name then Err barred.Path else
    (if nat_le (length name) own_max then Err barred.Ours else Ok (spot room name))

-- a name without ~/ or / in front
abbrev pub local_name : List ℕ → List ℕ
local_name name =
    if begins_with (codes "~/") name then drop 2 name else
    (if begins_with (codes "/") name then drop 1 name else name)

abbrev pub public_by : Result (List ℕ) BadText → Result Spot Barred
public_by (Ok name) = Ok (spot rooms.Public name)
public_by (Err fault) = Err barred.Path

-- in the public folder: no path, and no hidden name
abbrev pub public_spot : List ℕ → Result Spot Barred
public_spot name =
    if has_slash name || begins_with (codes "~") name then Err barred.Path else
    (if begins_with (codes ".") name then Err barred.Hidden else public_by (name_read name))

abbrev pub spot_of : List ℕ → Result Spot Barred
spot_of name =
    if has_two_dots name then Err barred.Path else
    (if begins_with (codes "C.") name then Err barred.Commands else
    (if begins_with (codes "D.X") name then spool_spot rooms.Text OWN_TEXT_MAX name else
    (if begins_with (codes "D.") name then spool_spot rooms.Data OWN_DATA_MAX name else
    (if begins_with (codes "X.") name then spool_spot rooms.Execution 0 name else
    public_spot (local_name name)))))

-- ---- names in the spool

-- D. and more, without a slash and without two dots side by side
abbrev pub is_data_name : List ℕ → Bool
is_data_name name =
    nat_lt 2 (length name) && (begins_with (codes "D.") name && (not (has_slash name) && not (has_two_dots name)))

-- the place of data for another system
abbrev pub data_spot : List ℕ → Spot
data_spot name = if begins_with (codes "D.X") name then spot rooms.Text name else spot rooms.Data name

-- a name that the folder of a system can have: the names of the spool's own folders begin with a dot
abbrev pub is_system_name : List ℕ → Bool
is_system_name name = not (has_slash name) && not (begins_with (codes ".") name)

-- the name of a file of this node at another system
abbrev pub far_name : (kind : ℕ) (node : List ℕ) (grade : ℕ) (number : List ℕ) → List ℕ
far_name kind node grade number = kind ∷ 46 ∷ take 7 node ++ grade ∷ number
