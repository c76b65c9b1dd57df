-- Who may write where, by the modes of files (POSIX).
use Rattle.std.specs.Prelude.{◌==◌, ◌&&◌, not, ℕ, Bool, bit_and, if◌then◌else◌}

-- A user certainly can't create files in a folder of this owner and mode. Root always can. The owner can with octal
-- 200. Another user may be able to if the group (octal 20) or everybody (octal 2) can.
abbrev pub is_closed : (owner mode me : ℕ) → Bool
is_closed owner mode me = not (me == 0) && bit_and mode (if owner == me then 128 else 18) == 0

-- In a folder of this owner and mode with the sticky bit (octal 1000), a user can't replace a file of another.
abbrev pub is_anothers : (folder mode owner me : ℕ) → Bool
is_anothers folder mode owner me =
    not (me == 0) && (not (bit_and mode 512 == 0) && (not (folder == me) && not (owner == me)))
