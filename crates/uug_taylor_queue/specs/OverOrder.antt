-- The order in which a job that is over is removed from the disk (this project's profile).
use Rattle.std.specs.Prelude.{ℕ, List, [], ◌∷◌, ◌++◌, Bool, false, Option, Some, None, if◌then◌else◌}
use Rattle.std.specs.List.{list_any}
use Rattle.std.specs.Str.{bytes_eq}
use Rattle.uug_conversation.specs.declared.job.Job.{Job}
use Rattle.uug_taylor_text.specs.Operations.{Op, folder_synced, renamed, unlinked}
use Rattle.uug_taylor_text.specs.SpoolNames.{data_spot, spot}
use Rattle.uug_taylor_text.specs.declared.spool_names.Room.TheVariants as rooms
use Rattle.uug_taylor_text.specs.declared.spool_names.Spot.{Spot}
use Rattle.uug_taylor_queue.specs.OpenLines.{lines_gone, lines_left}
use Rattle.uug_taylor_queue.specs.declared.open_line.OpenLine.{OpenLine}
use Rattle.uug_taylor_queue.specs.declared.open_line.Outcome.{Outcome}
use Rattle.uug_taylor_queue.specs.declared.open_line.Outcome.TheVariants.{Done, Failed}

-- ---- one line

-- whether one of these lines is in the file
abbrev pub has_line : (file : List ℕ) → List OpenLine → Bool
has_line file lines = list_any (λ line. bytes_eq line.file file) lines

abbrev pub is_of : (copy : List ℕ) → Option (List ℕ) → Bool
is_of copy None = false
is_of copy (Some other) = bytes_eq other copy

-- whether one of these lines has this copy
abbrev pub has_copy : (copy : List ℕ) → List OpenLine → Bool
has_copy copy lines = list_any (λ line. is_of copy line.copy) lines

-- a file is removed, and stays removed after a power cut
abbrev pub removed_ops : Spot → List Op
removed_ops copy = unlinked copy ∷ folder_synced copy.room ∷ []

-- or is preserved
abbrev pub preserved_ops : Spot → List Op
preserved_ops copy =
    renamed copy (spot rooms.Preserved copy.name) ∷ folder_synced rooms.Preserved ∷ folder_synced copy.room ∷ []

-- the copy of a done job is removed with the last line that has it; the copy of a failed job is preserved at once
abbrev pub copy_ops : Outcome → (copy : Option (List ℕ)) → (others : List OpenLine) → List Op
copy_ops outcome None others = []
copy_ops Done (Some copy) others = if has_copy copy others then [] else removed_ops (data_spot copy)
copy_ops Failed (Some copy) others = preserved_ops (data_spot copy)

-- a C. file is removed with its last line
abbrev pub file_ops : (file : List ℕ) → (others : List OpenLine) → List Op
file_ops file others = if has_line file others then [] else unlinked (spot rooms.Commands file) ∷ []

-- first the copy, and then the C. file
abbrev pub settled_ops : Outcome → (line : OpenLine) → (others : List OpenLine) → List Op
settled_ops outcome line others = copy_ops outcome line.copy others ++ file_ops line.file others

-- ---- several

-- these lines are removed with this outcome, one after the other, while the others stay
abbrev pub over_ops : Outcome → (over others : List OpenLine) → List Op
over_ops outcome [] others = []
over_ops outcome (line ∷ more) others = settled_ops outcome line (more ++ others) ++ over_ops outcome more others

-- the lines whose jobs are done, those whose jobs have failed, and those that stay
abbrev pub done_lines : (struck : List Job) → List OpenLine → List OpenLine
done_lines struck lines = lines_gone struck lines

abbrev pub failed_lines : (struck failed : List Job) → List OpenLine → List OpenLine
failed_lines struck failed lines = lines_gone failed (lines_left struck lines)

abbrev pub lines_after : (struck failed : List Job) → List OpenLine → List OpenLine
lines_after struck failed lines = lines_left failed (lines_left struck lines)

-- all lines that are removed
abbrev pub gone_lines : (struck failed : List Job) → List OpenLine → List OpenLine
gone_lines struck failed lines = done_lines struck lines ++ failed_lines struck failed lines

-- lines whose jobs are done are removed first
abbrev pub store_ops : (struck failed : List Job) → List OpenLine → List Op
store_ops struck failed lines =
    over_ops Done (done_lines struck lines) (failed_lines struck failed lines ++ lines_after struck failed lines)
    ++ over_ops Failed (failed_lines struck failed lines) (lines_after struck failed lines)
