use Rattle.std.proofs.Common.{◌≡◌, ◌++◌, drop, string_bytes}
use Rattle.uug_sim_ladder.specs.Labels.{escaped}
use Rattle.uug_sim_ladder.proofs.label.add_escaped.Given as goal

-- with the bytes that are left, the whole text is appended
abbrev pub invariant-loop-byte : goal.invariant-loop-byte
invariant-loop-byte g l = string_bytes l.text ++ escaped (drop l.byte-index l.bytes) ≡ string_bytes l.fn.text ++ escaped l.bytes
