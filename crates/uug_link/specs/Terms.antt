-- The windows and the packet sizes that an end may announce, and the field in which a message goes out. Taylor UUCP
-- manual, UUCP 'g' Protocol; the choice of the field is this project's profile.
use Rattle.std.specs.Prelude.{◌≡◌, ℕ, zero, suc, ◌+◌, ◌<◌, ◌≤◌, nat_le, if◌then◌else◌}
use Rattle.uug_packet.specs.Field.{field_size}
use Rattle.uug_link.specs.declared.limits.TheConstants.{SIZE_CODES, WINDOW_MAX}

abbrev pub IsWindow : ℕ → Type 0
IsWindow w = (1 ≤ w) × (w ≤ WINDOW_MAX)

-- the packet size in bytes, by its code: the bytes of a field
abbrev pub size_of_code : ℕ → ℕ
size_of_code y = field_size (y + 1)

-- one of the sizes of fields
abbrev pub IsSize : ℕ → Type 0
IsSize size = (y : ℕ) × (y < SIZE_CODES) × (size ≡ size_of_code y)

-- ---- the field of a message

-- the first code, from one on and at most so many more, whose field holds so many bytes; the last where none does
abbrev pub first_to_hold : (len code more : ℕ) → ℕ
first_to_hold len code zero = code
first_to_hold len code (suc more) =
    if nat_le len (field_size code) then code else first_to_hold len (suc code) more

-- the code of the smallest field that holds so many bytes
unfoldable pub smallest_code : (len : ℕ) → ℕ
smallest_code len = first_to_hold len 1 7
