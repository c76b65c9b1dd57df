-- The sequence numbers of the files that a system makes for another one (as Taylor UUCP 1.07 counts them).
use Rattle.std.specs.Prelude.{◌&&◌, ◌||◌, ℕ, ◌+◌, ◌-◌, ◌*◌, ◌/◌, ◌%◌, Bool, List, [], ◌∷◌, nat_lt, nat_le, if◌then◌else◌}
use Rattle.std.specs.Char.{is_ascii_digit, is_ascii_uppercase}

-- the digits of base 36: 0 to 9, A to Z
abbrev pub is_digit : ℕ → Bool
is_digit b = is_ascii_digit b || is_ascii_uppercase b

abbrev pub digit_value : ℕ → ℕ
digit_value b = if nat_le b 57 then b - 48 else b - 65 + 10

abbrev pub digit : ℕ → ℕ
digit value = if nat_lt value 10 then 48 + value else 65 + (value - 10)

-- the number in four digits, or 0 if a text is not four digits
abbrev pub sequence_value : List ℕ → ℕ
sequence_value (a ∷ b ∷ c ∷ d ∷ []) =
    if is_digit a && (is_digit b && (is_digit c && is_digit d))
    then 46656 * digit_value a + 1296 * digit_value b + 36 * digit_value c + digit_value d else 0
sequence_value _ = 0

abbrev pub sequence_text : ℕ → List ℕ
sequence_text n = digit (n / 46656 % 36) ∷ digit (n / 1296 % 36) ∷ digit (n / 36 % 36) ∷ digit (n % 36) ∷ []

-- the number after the one in a text
abbrev pub next_sequence : List ℕ → List ℕ
next_sequence text = sequence_text ((sequence_value text + 1) % 1679616)
