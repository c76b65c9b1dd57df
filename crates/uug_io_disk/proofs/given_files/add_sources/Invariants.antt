use Rattle.std.proofs.Common.{◌≤◌, length}
use Rattle.uug_io_disk.proofs.given_files.add_sources.Given as goal

-- no more files than jobs before
abbrev pub invariant-loop-place : goal.invariant-loop-place
invariant-loop-place g l = length l.files.items ≤ l.place
