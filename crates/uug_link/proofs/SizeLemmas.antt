-- The eight sizes.
use Rattle.std.proofs.Common.{ℕ, zero, suc, ◌<◌, arith}

-- what holds of each of the eight codes
pub each_code : (P : ℕ → Type 0) → P 0 → P 1 → P 2 → P 3 → P 4 → P 5 → P 6 → P 7 → (y : ℕ) → y < 8 → P y
each_code P a b c d e f g h zero k = a
each_code P a b c d e f g h (suc zero) k = b
each_code P a b c d e f g h (suc (suc zero)) k = c
each_code P a b c d e f g h (suc (suc (suc zero))) k = d
each_code P a b c d e f g h (suc (suc (suc (suc zero)))) k = e
each_code P a b c d e f g h (suc (suc (suc (suc (suc zero))))) k = f
each_code P a b c d e f g h (suc (suc (suc (suc (suc (suc zero)))))) k = g
each_code P a b c d e f g h (suc (suc (suc (suc (suc (suc (suc zero))))))) k = h
each_code P a b c d e f g h (suc (suc (suc (suc (suc (suc (suc (suc y)))))))) k = absurd (omega (arith, k))
