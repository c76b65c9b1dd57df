-- The texts of a report are text.
use Rattle.std.proofs.Common.{◌≡◌, ℕ, ◌+◌, ◌/◌, ◌%◌, ◌<◌, List, [], ◌∷◌, subst, sym, arith}
use Rattle.std.proofs.lemmas.Str.{IsUtf8-from_ascii}
use Rattle.std.proofs.lemmas.Str.Ascii.{IsAscii-nil, IsAscii-cons}
use Rattle.std.specs.Str.{IsAscii, IsUtf8}
use Rattle.uug_talk.specs.Mode.{mode_digits}

octal_is_ascii : (n : ℕ) → 48 + n % 8 < 128
octal_is_ascii n = omega arith

four_are_ascii : (a b c d : ℕ) → a < 128 → b < 128 → c < 128 → d < 128 → IsAscii (a ∷ b ∷ c ∷ d ∷ [])
four_are_ascii a b c d p q r s =
    IsAscii-cons a (b ∷ c ∷ d ∷ []) p (IsAscii-cons b (c ∷ d ∷ []) q (IsAscii-cons c (d ∷ []) r (IsAscii-cons d [] s IsAscii-nil)))

pub mode_is_text : (mode : ℕ) (digits : List ℕ) → digits ≡ mode_digits mode → IsUtf8 digits
mode_is_text mode digits e =
    subst IsUtf8 (sym e) (IsUtf8-from_ascii (mode_digits mode)
    (four_are_ascii (48 + mode / 512 % 8) (48 + mode / 64 % 8) (48 + mode / 8 % 8) (48 + mode % 8)
    (octal_is_ascii (mode / 512)) (octal_is_ascii (mode / 64)) (octal_is_ascii (mode / 8)) (octal_is_ascii mode)))
