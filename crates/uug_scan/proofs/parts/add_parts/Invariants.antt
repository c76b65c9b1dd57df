use Rattle.std.proofs.Common.{◌≡◌, ◌+◌, ◌-◌, ◌≤◌, drop, length, string_bytes}
use Rattle.uug_scan.specs.Code.Noise.{AddsParts, Holds, end_of}
use Rattle.uug_scan.proofs.parts.add_parts.Given as goal

-- what was passed was told
abbrev pub invariant-loop-front : goal.invariant-loop-front
invariant-loop-front g l = record {
  within : l.passed ≤ length l.bytes;
  adds : AddsParts l.bytes (drop l.passed l.bytes) l.fn.noise l.noise (string_bytes l.fn.lines) (string_bytes l.lines);
  holds : Holds l.noise;
  ends : end_of l.noise ≡ end_of l.fn.noise + l.passed;
}

abbrev pub decreases-loop-front : goal.decreases-loop-front
decreases-loop-front g l = length l.bytes - l.passed
