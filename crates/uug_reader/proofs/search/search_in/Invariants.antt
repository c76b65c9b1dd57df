use Rattle.std.proofs.Common.{◌≤◌, ◌-◌, length, drop}
use Rattle.uug_reader.specs.Finding.{PassesNoise}
use Rattle.uug_reader.proofs.search.search_in.Given as goal

abbrev pub invariant-loop-part : goal.invariant-loop-part
invariant-loop-part l = record {
  within : l.passed ≤ length l.bytes;
  passes : PassesNoise l.bytes (drop l.passed l.bytes);
}

abbrev pub decreases-loop-part : goal.decreases-loop-part
decreases-loop-part l = length l.bytes - l.passed
