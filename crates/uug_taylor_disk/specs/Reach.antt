-- Which of the system's errors mean that a file can't be put at a path, whatever is tried (this project's profile).
use Rattle.std.specs.Prelude.{not, Bool, true, false}
use Rattle.std.specs.declared.io.ErrorKind.{ErrorKind}
use Rattle.std.specs.declared.io.ErrorKind.TheVariants as kinds
use Rattle.uug_taylor_text.specs.declared.spool_names.Room.{Room}
use Rattle.uug_taylor_text.specs.declared.spool_names.Room.TheVariants as rooms

abbrev pub is_no_place : ErrorKind → Bool
is_no_place kinds.IsADirectory = true
is_no_place kinds.NotADirectory = true
is_no_place kinds.DirectoryNotEmpty = true
is_no_place kinds.AlreadyExists = true
is_no_place kinds.PermissionDenied = true
is_no_place kinds.ReadOnlyFilesystem = true
is_no_place kinds.CrossesDevices = true
is_no_place kinds.InvalidFilename = true
is_no_place _ = false

-- a C. file only replaces one that still exists
abbrev pub is_absent : Room → (is_there : Bool) → Bool
is_absent rooms.Commands is_there = not is_there
is_absent _ is_there = false
