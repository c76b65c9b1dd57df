-- Names in which a backslash and three octal digits stand for a byte (as Taylor UUCP 1.07 writes a blank in a name;
-- that a backslash before anything else is an error is this project's profile).
use Rattle.std.specs.Prelude.{◌==◌, ◌&&◌, ◌||◌, not, ℕ, zero, suc, ◌+◌, ◌-◌, ◌*◌, ◌/◌, ◌%◌, Bool, true, List, [], ◌∷◌, ◌++◌, nat_le, Option, Some, None, if◌then◌else◌}
use Rattle.std.specs.Option.{is_some}

-- ---- what a word stands for

abbrev pub is_octal : ℕ → Bool
is_octal b = nat_le 48 b && nat_le b 55

-- the byte of three octal digits, the first of which is at most 3
abbrev pub octal_byte : (high middle low : ℕ) → Option ℕ
octal_byte high middle low =
    if is_octal high && (nat_le high 51 && (is_octal middle && is_octal low))
    then Some (64 * (high - 48) + 8 * (middle - 48) + (low - 48)) else None

-- the byte of a backslash and three digits at the front of a text
abbrev pub byte_in_digits : List ℕ → Option ℕ
byte_in_digits (first ∷ high ∷ middle ∷ low ∷ more) = if first == 92 then octal_byte high middle low else None
byte_in_digits _ = None

-- a byte that isn't written in digits is itself
abbrev pub read_as : (found : Option ℕ) → (byte : ℕ) → ℕ
read_as None byte = byte
read_as (Some said) byte = said

abbrev pub digits_of : (found : Option ℕ) → ℕ
digits_of None = 0
digits_of (Some said) = 3

-- the rest of a word, unquoted, after the remaining digits of a byte that was read
abbrev pub unquoted_behind : (digits : ℕ) → List ℕ → List ℕ
unquoted_behind n [] = []
unquoted_behind (suc n) (b ∷ bs) = unquoted_behind n bs
unquoted_behind zero (b ∷ bs) =
    read_as (byte_in_digits (b ∷ bs)) b ∷ unquoted_behind (digits_of (byte_in_digits (b ∷ bs))) bs

abbrev pub unquoted : List ℕ → List ℕ
unquoted word = unquoted_behind zero word

-- each backslash is followed by the digits of a byte
abbrev pub is_well_quoted : List ℕ → Bool
is_well_quoted [] = true
is_well_quoted (b ∷ bs) = (not (b == 92) || is_some (byte_in_digits (b ∷ bs))) && is_well_quoted bs

-- ---- how bytes are written

-- a byte that is no printing character, a space, a quotation mark or a backslash
abbrev pub needs_quoting : ℕ → Bool
needs_quoting b = not (nat_le 33 b && nat_le b 126) || (b == 34 || b == 92)

abbrev pub quoted_byte : ℕ → List ℕ
quoted_byte b = if needs_quoting b then 92 ∷ (48 + b / 64 % 8) ∷ (48 + b / 8 % 8) ∷ (48 + b % 8) ∷ [] else b ∷ []

abbrev pub quoted : List ℕ → List ℕ
quoted [] = []
quoted (b ∷ bs) = quoted_byte b ++ quoted bs
