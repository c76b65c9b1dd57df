-- What a timer is made of fits the numbers of the program.
use Rattle.std.proofs.Common.{ℕ, ◌+◌, ◌*◌, ◌%◌, ◌≤◌, ◌<◌, arith}
use Rattle.std.proofs.Math.Nat.{add-le-add, div-le_self, min-le_left}
use Rattle.std.proofs.lemmas.Nat.{mul-le}
use Rattle.std.specs.Int.{div_ceil}

pub ceil_fits : (x y : ℕ) → div_ceil x y ≤ x + 1
ceil_fits x y = add-le-add (div-le_self x y) (min-le_left 1 (x % y))

pub packets_fit : (count size : ℕ) → count < 256 → size < 65536 → count * (size + 6) ≤ 255 * 65541
packets_fit count size few small = mul-le count (size + 6) 255 65541 (omega (arith, few)) (omega (arith, small))
