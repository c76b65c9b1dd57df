-- How files from another system are stored in their places (this project's profile).
use Rattle.std.specs.Prelude.{◌&&◌, ◌||◌, ℕ, List, [], ◌∷◌, ◌++◌, Bool, true, false, not, Option, Some, None, codes, if◌then◌else◌}
use Rattle.std.specs.List.{list_any}
use Rattle.std.specs.Str.{bytes_eq}
use Rattle.uug_talk.specs.Lines.{lines}
use Rattle.uug_talk.specs.Digests.{hash_text}
use Rattle.uug_taylor_text.specs.DiskOrder.{stored_ops}
use Rattle.uug_taylor_text.specs.Operations.{Op, folder_synced, unlinked}
use Rattle.uug_taylor_text.specs.SpoolNames.{begins_with, spot}
use Rattle.uug_taylor_text.specs.declared.spool_names.Room.{Room}
use Rattle.uug_taylor_text.specs.declared.spool_names.Room.TheVariants as rooms
use Rattle.uug_taylor_text.specs.declared.spool_names.Spot.{Spot}
use Rattle.uug_taylor_queue.specs.Places.{temp_name}
use Rattle.uug_taylor_queue.specs.declared.marks.Came.{Came}
use Rattle.uug_taylor_queue.specs.declared.marks.Marks.{Marks}
use Rattle.uug_taylor_queue.specs.declared.spool_folder.SpoolFolder.{SpoolFolder}

-- ---- what a folder has

abbrev pub came_of : {D A : Type 0} → SpoolFolder D A → List (Came A)
came_of folder = folder.came.items

abbrev pub marks_of : {D A : Type 0} → SpoolFolder D A → Marks
marks_of folder = folder.marks

-- ---- files that were received before

-- a line of an execution file that names a file that must exist
abbrev pub names_file : List ℕ → Bool
names_file line = begins_with (codes "F ") line

abbrev pub names_data : (text : List ℕ) → Bool
names_data text = list_any names_file (lines text)

abbrev pub has_marker : {A : Type 0} → List (Came A) → (name text : List ℕ) → Bool
has_marker came name text = list_any (λ other. bytes_eq other.name name && bytes_eq other.text.items text) came

abbrev pub has_same_text : {A : Type 0} → List (Came A) → (text : List ℕ) → Bool
has_same_text came text = list_any (λ other. bytes_eq other.text.items text) came

-- The text of a marker identifies the received file: it is an execution file's own text, the name of a file in the
-- public folder, or else the digest of the bytes.
abbrev pub marker_by : Room → (place bytes : List ℕ) → List ℕ
marker_by rooms.Execution place bytes = bytes
marker_by rooms.Public place bytes = place
marker_by _ place bytes = hash_text bytes

abbrev pub marker_text : Spot → (bytes : List ℕ) → List ℕ
marker_text target bytes = marker_by target.room target.name bytes

-- whether the marker of a file existed when the session began: its name alone does not show that, as a sender with a
-- new spool uses the same names again; an execution file that names its data may have another name, and is new if its
-- data is; another file may be sent under a name in the public folder
abbrev pub is_again : {A : Type 0} → Room → (is_new : Bool) → (came : List (Came A)) → (name bytes : List ℕ) → Bool
is_again rooms.Public is_new came name bytes = false
is_again rooms.Execution is_new came name bytes =
    not is_new && (has_marker came name bytes || (names_data bytes && has_same_text came bytes))
is_again room is_new came name bytes = has_marker came name (hash_text bytes)

-- ---- markers

abbrev pub no_marks : Marks
no_marks = record { before = None; last = None; is_new = false }

-- the marker of data stays when its execution file arrives: both are sent again unless the sender knows of both
abbrev pub keeps : Room → (last : Option (List ℕ)) → Bool
keeps rooms.Execution (Some last) = begins_with (codes "D.") last
keeps _ _ = false

-- data that goes with an execution file
abbrev pub is_data : Room → Bool
is_data rooms.Data = true
is_data rooms.Text = true
is_data _ = false

abbrev pub next_marks : Marks → Room → (again : Bool) → (name : List ℕ) → Marks
next_marks marks room again name = record {
  before = if keeps room marks.last then marks.last else None;
  last = Some name;
  is_new = is_data room && not again;
}

abbrev pub is_mark : (mark : Option (List ℕ)) → (name : List ℕ) → Bool
is_mark None name = false
is_mark (Some mark) name = bytes_eq mark name

-- ---- the operations

abbrev pub mark_ops : (mark : Option (List ℕ)) → List Op
mark_ops None = []
mark_ops (Some mark) = unlinked (spot rooms.Marked mark) ∷ []

-- the markers that exist are removed
abbrev pub end_ops : Marks → List Op
end_ops marks = mark_ops marks.before ++ mark_ops marks.last

-- the folder is synced if the next file has the name of a removed marker: a power cut could bring it back beside an
-- incomplete file
abbrev pub seen_ops : Marks → (name : List ℕ) → List Op
seen_ops marks name = if is_mark marks.before name || is_mark marks.last name then folder_synced rooms.Marked ∷ [] else []

abbrev pub unmark_ops : Marks → Room → (name : List ℕ) → List Op
unmark_ops marks room name = if keeps room marks.last then [] else end_ops marks ++ seen_ops marks name

-- a file that was received before is dropped
abbrev pub again_ops : (again : Bool) → (bytes : List ℕ) → Spot → List Op
again_ops again bytes target =
    if again then [] else stored_ops (temp_name target) target (marker_text target bytes) bytes

abbrev pub came_again : {A : Type 0} → Marks → (came : List (Came A)) → Spot → (bytes : List ℕ) → Bool
came_again marks came target bytes = is_again target.room marks.is_new came (temp_name target) bytes

abbrev pub place_ops : {A : Type 0} → Marks → (came : List (Came A)) → Spot → (bytes : List ℕ) → List Op
place_ops marks came target bytes =
    unmark_ops marks target.room (temp_name target) ++ again_ops (came_again marks came target bytes) bytes target

-- the markers once this file is received
abbrev pub marks_after : {A : Type 0} → Marks → (came : List (Came A)) → Spot → (bytes : List ℕ) → Marks
marks_after marks came target bytes =
    next_marks marks target.room (came_again marks came target bytes) (temp_name target)
