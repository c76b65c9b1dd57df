use Rattle.std.proofs.Common.{◌≤◌, length}
use Rattle.uug_io_disk.specs.declared.send_folder.TheConstants.{FILES_MAX}
use Rattle.uug_io_disk.proofs.send_folder.add_entries.Given as goal

-- each file that is given was counted
abbrev pub invariant-loop-entry : goal.invariant-loop-entry
invariant-loop-entry g l = record {
  counted : length l.files.items ≤ l.count;
  within : l.count ≤ FILES_MAX;
}
