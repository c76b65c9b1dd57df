-- How long an end waits for bytes that may be on the way (this project's profile).
use Rattle.std.specs.Prelude.{ℕ, ◌+◌, ◌*◌, ◌≤◌, Option, Some, None}
use Rattle.std.specs.Int.{div_ceil}
use Rattle.uug_transfer.specs.declared.timer.TheConstants.{SPEED_MAX, SPEED_MIN}

-- the speeds that a line may have, in bits a second
abbrev pub IsSpeed : ℕ → Type 0
IsSpeed speed = (SPEED_MIN ≤ speed) × (speed ≤ SPEED_MAX)

-- the bytes of `count` packets with fields of this size, each with a header of six bytes
abbrev pub packets_of : (count size : ℕ) → ℕ
packets_of count size = count * (size + 6)

-- The seconds without a byte that make a silence: the timeout. If the speed of the line is given, the time that `bytes`
-- bytes take on it is added, at ten bits each, rounded up.
abbrev pub timer : (timeout : ℕ) → (speed : Option ℕ) → (bytes : ℕ) → ℕ
timer timeout None bytes = timeout
timer timeout (Some speed) bytes = timeout + div_ceil (bytes * 10) speed
