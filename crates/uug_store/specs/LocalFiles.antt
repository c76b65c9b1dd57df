-- The state of a spool for files that real systems name (this project's profile).
use Rattle.std.specs.Prelude.{Bool, List, ℕ, Option}
use Rattle.uug_conversation.specs.Partial.{Partial}
use Rattle.uug_conversation.specs.declared.file_limit.FileLimit.{FileLimit}
use Rattle.uug_store.specs.FolderFiles.{FolderFiles}

pub record LocalFiles (F A : Type 0) : Type 0 where
  -- the files, under their names in the folder
  pub files : FolderFiles F A
  -- the names under which the kept files arrived, in the same order
  pub names : List (List ℕ)
  -- the names in the folder of the files that can't be given now, but may be later
  pub delayed : List (List ℕ)
  -- the partial files that it holds, or `None` if it does not resume files
  pub partials : Option (List Partial)
  -- whether its end refuses what it can't read, and goes on
  pub lenient : Bool
  -- whether it announces digests of its files, and compares those that it receives
  pub digests : Bool
  -- the maximum size of a file that it gives or takes
  pub limit : FileLimit
