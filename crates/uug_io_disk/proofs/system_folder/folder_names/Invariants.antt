use Rattle.std.proofs.Common.{◌≤◌, length}
use Rattle.uug_io_disk.specs.declared.system_folder.TheConstants.{FOLDERS_MAX}
use Rattle.uug_io_disk.proofs.system_folder.folder_names.Given as goal

-- no more names than are noted
abbrev pub invariant-loop-entry : goal.invariant-loop-entry
invariant-loop-entry g l = length l.names.items ≤ FOLDERS_MAX
