-- The files of a spool over a folder (this project's profile).
use Rattle.std.specs.Prelude.{List}
use Rattle.uug_conversation.specs.declared.stored.Stored.{Stored}
use Rattle.uug_conversation.specs.Holdings.{Kept}

pub record FolderFiles (F A : Type 0) : Type 0 where
  -- the files that it has to give
  pub files : List (Stored A)
  -- the files that it has kept, in the order in which it kept them
  pub stored : List Kept
  pub folder : F
