-- Which failed system calls may succeed later, with nothing else changed (this project's profile).
use Rattle.std.specs.Prelude.{not, Bool, true, false}
use Rattle.std.specs.declared.io.ErrorKind.{ErrorKind}
use Rattle.std.specs.declared.io.ErrorKind.TheVariants as kinds
use Rattle.uug_error.specs.declared.failure.Cause.{Cause}
use Rattle.uug_error.specs.declared.failure.Cause.TheVariants as causes

-- the path leads to no file that this program may read, so the call fails again until that changes
abbrev pub is_out_of_reach : ErrorKind → Bool
is_out_of_reach kinds.NotFound = true
is_out_of_reach kinds.NotADirectory = true
is_out_of_reach kinds.PermissionDenied = true
is_out_of_reach kinds.FilesystemLoop = true
is_out_of_reach kinds.InvalidFilename = true
is_out_of_reach _ = false

abbrev pub may_pass : Cause → Bool
may_pass (causes.Refused kind code) = not (is_out_of_reach kind)
may_pass _ = false
