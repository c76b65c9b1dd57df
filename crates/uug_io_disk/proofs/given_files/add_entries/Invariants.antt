use Rattle.std.proofs.Common.{◌≡◌, ◌+◌, ◌≤◌, length}
use Rattle.uug_io_disk.specs.declared.given_files.TheConstants.{OTHERS_MAX}
use Rattle.uug_io_disk.proofs.given_files.add_entries.Given as goal

-- no more others than may be given
abbrev pub invariant-loop-entry : goal.invariant-loop-entry
invariant-loop-entry g l = (length l.files.items ≤ l.others.before + OTHERS_MAX) × (l.others.before ≡ l.fn.others.before)
