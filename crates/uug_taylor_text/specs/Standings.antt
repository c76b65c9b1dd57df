-- What a power cut leaves of the folders of a spool (this project's profile). Any of the changes of a folder that were
-- not synced may be lost, whatever becomes of the others. A file whose bytes were not synced may have any bytes.
use Rattle.std.specs.Prelude.{◌≡◌, ◌⊎◌, ◌==◌, ◌&&◌, ◌||◌, ℕ, suc, Bool, true, false, List, [], ◌∷◌, Option, Some, None, ⊤}
use Rattle.std.specs.Str.{bytes_eq}
use Rattle.uug_taylor_text.specs.Operations.{Op, folder_synced, made, renamed, synced, unlinked}
use Rattle.uug_taylor_text.specs.declared.spool_names.Room.{Room}
use Rattle.uug_taylor_text.specs.declared.spool_names.Room.TheVariants as rooms
use Rattle.uug_taylor_text.specs.declared.spool_names.Spot.{Spot}

-- ---- folders

-- a file: its number, and the bytes that were written to it
pub record Inode : Type 0 where
  pub number : ℕ
  pub bytes : List ℕ

-- a name in a folder gets a file, or is removed
pub data Change : Type 0 where
  put : Spot → Inode → Change
  gone : Spot → Change

pub record Noted : Type 0 where
  pub change : Change
  -- whether it was synced
  pub durable : Bool

pub record Standing : Type 0 where
  -- the number of the next file that is created
  pub next : ℕ
  -- the changes of all folders, the last one first
  pub notes : List Noted
  -- the numbers of the files whose bytes were synced
  pub safe : List ℕ

abbrev pub room_number : Room → ℕ
room_number rooms.Commands = 0
room_number rooms.Data = 1
room_number rooms.Text = 2
room_number rooms.Execution = 3
room_number rooms.Public = 4
room_number rooms.Temporary = 5
room_number rooms.Marked = 6
room_number rooms.Preserved = 7

abbrev pub is_room : Room → Room → Bool
is_room room other = room_number room == room_number other

abbrev pub is_spot : Spot → Spot → Bool
is_spot spot other = is_room spot.room other.room && bytes_eq spot.name other.name

abbrev pub place_of : Change → Spot
place_of (put spot inode) = spot
place_of (gone spot) = spot

abbrev pub file_of : Change → Option Inode
file_of (put spot inode) = Some inode
file_of (gone spot) = None

abbrev pub found_by : (is_there : Bool) → Change → (rest : Option Inode) → Option Inode
found_by false change rest = rest
found_by true change rest = file_of change

-- the file that has a name after these changes
abbrev pub found : Spot → List Change → Option Inode
found spot [] = None
found spot (change ∷ more) = found_by (is_spot (place_of change) spot) change (found spot more)

abbrev pub changes_of : List Noted → List Change
changes_of [] = []
changes_of (n ∷ ns) = n.change ∷ changes_of ns

-- ---- what an operation does

abbrev pub noted : Change → Standing → Standing
noted change s = record { next = s.next; notes = (record { change = change; durable = false }) ∷ s.notes; safe = s.safe }

abbrev pub file_made : Spot → (bytes : List ℕ) → Standing → Standing
file_made spot bytes s = record {
  next = suc s.next;
  notes = (record { change = put spot (record { number = s.next; bytes = bytes }); durable = false }) ∷ s.notes;
  safe = s.safe;
}

abbrev pub made_safe : Option Inode → Standing → Standing
made_safe None s = s
made_safe (Some inode) s = record { next = s.next; notes = s.notes; safe = inode.number ∷ s.safe }

-- either of the two changes may be lost without the other
abbrev pub moved : Option Inode → (from to : Spot) → Standing → Standing
moved None from to s = s
moved (Some inode) from to s = noted (gone from) (noted (put to inode) s)

abbrev pub seen_one : Room → Noted → Noted
seen_one room n = record { change = n.change; durable = n.durable || is_room (place_of n.change).room room }

-- the changes of a folder are synced
abbrev pub seen : Room → List Noted → List Noted
seen room [] = []
seen room (n ∷ ns) = seen_one room n ∷ seen room ns

abbrev pub after : Op → Standing → Standing
after (made spot bytes) s = file_made spot bytes s
after (synced spot) s = made_safe (found spot (changes_of s.notes)) s
after (renamed from to) s = moved (found from (changes_of s.notes)) from to s
after (unlinked spot) s = noted (gone spot) s
after (folder_synced room) s = record { next = s.next; notes = seen room s.notes; safe = s.safe }

abbrev pub after_all : List Op → Standing → Standing
after_all [] s = s
after_all (op ∷ ops) s = after_all ops (after op s)

-- ---- what a power cut leaves

-- each change that was synced stays; any other may stay or be lost
abbrev pub Survive : List Noted → List Change → Type 0
Survive [] cs = cs ≡ []
Survive (n ∷ ns) cs = ((n.durable ≡ false) × Survive ns cs) ⊎ ((rest : List Change) × (cs ≡ n.change ∷ rest) × Survive ns rest)

abbrev pub IsIn : ℕ → List ℕ → Type 0
IsIn n [] = ⊥
IsIn n (m ∷ ms) = (n ≡ m) ⊎ IsIn n ms

-- a file whose bytes were not synced may show any bytes
abbrev pub Shows : (safe : List ℕ) → (file : Option Inode) → (held : Option (List ℕ)) → Type 0
Shows safe None None = ⊤
Shows safe None (Some text) = ⊥
Shows safe (Some inode) None = ⊥
Shows safe (Some inode) (Some text) = IsIn inode.number safe → text ≡ inode.bytes

-- after a power cut this name may have a file of these bytes, or none
pub record MayHold (s : Standing) (spot : Spot) (held : Option (List ℕ)) : Type 0 where
  pub changes : List Change
  pub survive : Survive s.notes changes
  pub shows : Shows s.safe (found spot changes) held

-- ---- what can't be lost

abbrev pub IsAsBefore : (before : Standing) → Spot → Standing → Type 0
IsAsBefore before spot s = (held : Option (List ℕ)) → MayHold s spot held → MayHold before spot held

abbrev pub IsBeforeOrWhole : (before : Standing) → Spot → (bytes : List ℕ) → Standing → Type 0
IsBeforeOrWhole before spot bytes s = (held : Option (List ℕ)) → MayHold s spot held → MayHold before spot held ⊎ (held ≡ Some bytes)

abbrev pub IsWholeThere : Spot → (bytes : List ℕ) → Standing → Type 0
IsWholeThere spot bytes s = (held : Option (List ℕ)) → MayHold s spot held → held ≡ Some bytes

abbrev pub IsGoneThere : Spot → Standing → Type 0
IsGoneThere spot s = (held : Option (List ℕ)) → MayHold s spot held → held ≡ None

-- the place is as it was before, or the marker is there, complete
abbrev pub IsMarked : (before : Standing) → (spot marker : Spot) → (text : List ℕ) → Standing → Type 0
IsMarked before spot marker text s = IsAsBefore before spot s ⊎ IsWholeThere marker text s

-- the place is as it was before, or the first file is gone for good
abbrev pub IsBehind : (before : Standing) → (spot first : Spot) → Standing → Type 0
IsBehind before spot first s = IsAsBefore before spot s ⊎ IsGoneThere first s

-- wherever these operations are stopped
abbrev pub AfterEach : (Standing → Type 0) → List Op → Standing → Type 0
AfterEach P [] s = P s
AfterEach P (op ∷ ops) s = P s × AfterEach P ops (after op s)

-- ---- if a disk reports its operations

abbrev pub no_folders : Standing
no_folders = record { next = 0; notes = []; safe = [] }

abbrev pub Told : (Standing → Type 0) → Option (List Op) → Type 0
Told P None = ⊤
Told P (Some ops) = P (after_all ops no_folders)

abbrev pub ToldSince : (Standing → Standing → Type 0) → (before now : Option (List Op)) → Type 0
ToldSince P None now = ⊤
ToldSince P (Some ops) now = Told (P (after_all ops no_folders)) now
