use Rattle.std.proofs.Common.{ℕ, ◌-◌, ◌≤◌, ◌<◌}
use Rattle.uug_packet.specs.Field.{field_size}
use Rattle.uug_packet.proofs.field.field_code.Given as goal

-- the fields of the codes below are too small
abbrev pub invariant-loop-code : goal.invariant-loop-code
invariant-loop-code l =
    (1 ≤ l.code) × (l.code ≤ 8) × ((k : ℕ) → 1 ≤ k → k < l.code → field_size k < l.len)

abbrev pub decreases-loop-code : goal.decreases-loop-code
decreases-loop-code l = 8 - l.code
