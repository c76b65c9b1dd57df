-- When the number of an end's conversations is not written, and which process is this one (this project's profile).
use Rattle.std.specs.Prelude.{◌+◌, ◌%◌, ◌^◌, ◌==◌, ◌||◌, ℕ, Bool, false, Option, Some, None}

-- the file has this number or the next one: a called end may begin with the number before that of the file, but a
-- number there never falls by one
abbrev pub stays_with : (held number : Option ℕ) → Bool
stays_with (Some held) (Some number) = number == held || (number + 1) % 2 ^ 32 == held
stays_with _ _ = false

-- as far as the system reports the number of this process
abbrev pub is_own : (own : Option ℕ) → (process : ℕ) → Bool
is_own None process = false
is_own (Some own) process = own == process
