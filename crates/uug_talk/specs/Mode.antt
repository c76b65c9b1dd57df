-- The mode of a file as a word (Taylor UUCP manual, "UUCP Protocol"; that one to seven digits are
-- read is this project's profile).
use Rattle.std.specs.Prelude.{◌&&◌, ℕ, ◌+◌, ◌-◌, ◌*◌, ◌/◌, ◌%◌, ◌<◌, ◌≤◌, Bool, List, [], ◌∷◌, length, All, fold, nat_lt, nat_le, Result, Ok, Err, if◌then◌else◌}
use Rattle.std.specs.List.{list_all}
use Rattle.uug_talk.specs.declared.error.BadText.{BadText}
use Rattle.uug_talk.specs.declared.error.BadText.TheVariants as fault
use Rattle.uug_talk.specs.declared.mode.TheConstants.{MODE_MAX, MODE_DIGITS_MAX}

abbrev pub IsOctalDigit : ℕ → Type 0
IsOctalDigit b = (48 ≤ b) × (b ≤ 55)

-- one to seven octal digits
pub record IsModeWord (word : List ℕ) : Type 0 where
  pub some : 0 < length word
  pub short : length word ≤ MODE_DIGITS_MAX
  pub digits : All IsOctalDigit word

-- the number that octal digits write
abbrev pub octal_value : List ℕ → ℕ
octal_value digits = fold (λ n d. 8 * n + (d - 48)) 0 digits

-- the mode that they spell: what passes the greatest mode is cut off
abbrev pub mode_of : List ℕ → ℕ
mode_of word = octal_value word % (MODE_MAX + 1)

-- a mode as it is written: four octal digits
abbrev pub mode_digits : ℕ → List ℕ
mode_digits mode = (48 + mode / 512 % 8) ∷ (48 + mode / 64 % 8) ∷ (48 + mode / 8 % 8) ∷ (48 + mode % 8) ∷ []

-- Reading a word as a mode, as a function.
abbrev pub is_octal_digit : ℕ → Bool
is_octal_digit b = nat_le 48 b && nat_le b 55

abbrev pub is_mode_word : List ℕ → Bool
is_mode_word word = nat_lt 0 (length word) && nat_le (length word) MODE_DIGITS_MAX && list_all is_octal_digit word

abbrev pub mode_read : List ℕ → Result ℕ BadText
mode_read word = if is_mode_word word then Ok (mode_of word) else Err fault.Mode
