-- The disk operations that keep a received file (this project's profile).
use Rattle.std.specs.Prelude.{ℕ, List, [], Option, Some, None}
use Rattle.uug_taylor_text.specs.Operations.{Op}
use Rattle.uug_taylor_text.specs.declared.spool_names.Spot.{Spot}
use Rattle.uug_taylor_queue.specs.Places.{place_in, shown_public}
use Rattle.uug_taylor_queue.specs.Placing.{came_of, marks_after, marks_of, place_ops}
use Rattle.uug_taylor_queue.specs.declared.mail_spool.MailSpool.{MailSpool}
use Rattle.uug_taylor_queue.specs.declared.marks.Marks.{Marks}
use Rattle.uug_taylor_queue.specs.declared.spool_folder.SpoolFolder.{SpoolFolder}

-- nothing is done for a name without a place
abbrev pub ops_at : {D A : Type 0} → SpoolFolder D A → (place : Option Spot) → (bytes : List ℕ) → List Op
ops_at folder None bytes = []
ops_at folder (Some place) bytes = place_ops (marks_of folder) (came_of folder) place bytes

abbrev pub marks_at : {D A : Type 0} → SpoolFolder D A → (place : Option Spot) → (bytes : List ℕ) → Marks
marks_at folder None bytes = marks_of folder
marks_at folder (Some place) bytes = marks_after (marks_of folder) (came_of folder) place bytes

abbrev pub place_for : {D N A : Type 0} → MailSpool D N A → (name : List ℕ) → Option Spot
place_for spool name = place_in (shown_public spool.public) name

-- the operations that store a file of this name and these bytes
abbrev pub keep_ops : {D N A : Type 0} → MailSpool D N A → (name bytes : List ℕ) → List Op
keep_ops spool name bytes = ops_at spool.folder (place_for spool name) bytes

-- the markers after these operations
abbrev pub keep_marks : {D N A : Type 0} → MailSpool D N A → (name bytes : List ℕ) → Marks
keep_marks spool name bytes = marks_at spool.folder (place_for spool name) bytes
