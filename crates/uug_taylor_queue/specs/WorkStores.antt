-- A store of jobs over the C. files of a system (this project's profile).
use Rattle.std.specs.Prelude.{◌≡◌, ◌⊎◌, ℕ, List, map, Option}
use Rattle.uug_taylor_text.specs.Operations.{Op, also_told}
use Rattle.uug_taylor_queue.specs.Rewriting.{FileText, shown_text}
use Rattle.uug_taylor_queue.specs.declared.open_line.OpenLine.{OpenLine}
use Rattle.uug_taylor_queue.specs.declared.work_store.WorkStore.{WorkStore}

abbrev pub lines_of : {D A : Type 0} → WorkStore D A → List OpenLine
lines_of store = store.lines.items

-- the C. files of these lines, as they are on the disk but for the lines that are over
abbrev pub files_of : {D A : Type 0} → WorkStore D A → List FileText
files_of store = map shown_text store.files.items

-- nothing was done on the disk, or the whole notice was appended
abbrev pub IsToldFirst : (notice : List ℕ) (told told_after : Option (List ℕ)) (done done_after : Option (List Op)) → Type 0
IsToldFirst notice told told_after done done_after = (done_after ≡ done) ⊎ (told_after ≡ also_told notice told)
