-- Quoted words are read byte by byte, and what is written of a name is read as the name.
use Rattle.std.proofs.Common.{◌≡◌, ◌==◌, ℕ, ◌<◌, ◌/◌, ◌%◌, ◌+◌, Bool, true, false, List, [], ◌∷◌, ◌++◌, All, drop, Some, None, refl, ap, ◌∙◌, arith}
use Rattle.std.proofs.lemmas.Bool.Decides.{nat_tests}
use Rattle.std.proofs.lemmas.List.Elements.{All-head, All-tail}
use Rattle.uug_taylor_text.specs.Quoting.{byte_in_digits, is_well_quoted, needs_quoting, octal_byte, quoted, quoted_byte, unquoted}

-- ---- one byte in front

pub digits_in_front : (text : List ℕ) (byte : ℕ) → byte_in_digits text ≡ Some byte → unquoted text ≡ byte ∷ unquoted (drop 4 text)
digits_in_front [] byte e = absurd cc
digits_in_front (a ∷ []) byte e = absurd cc
digits_in_front (a ∷ b ∷ []) byte e = absurd cc
digits_in_front (a ∷ b ∷ c ∷ []) byte e = absurd cc
digits_in_front (a ∷ b ∷ c ∷ d ∷ more) byte e = rw e refl

pub itself_in_front : (byte : ℕ) (behind : List ℕ) → byte_in_digits (byte ∷ behind) ≡ None → unquoted (byte ∷ behind) ≡ byte ∷ unquoted behind
itself_in_front byte behind e = rw e refl

-- ---- a byte that is written as itself

not_digits : (b : ℕ) (rest : List ℕ) → (b == 92) ≡ false → byte_in_digits (b ∷ rest) ≡ None
not_digits b [] h = refl
not_digits b (x ∷ []) h = refl
not_digits b (x ∷ y ∷ []) h = refl
not_digits b (x ∷ y ∷ z ∷ more) h = rw h refl

no_backslash : (b : ℕ) → needs_quoting b ≡ false → (b == 92) ≡ false
no_backslash b h = grind (arith, nat_tests)

passes : (b : ℕ) (rest : List ℕ) → (b == 92) ≡ false → is_well_quoted (b ∷ rest) ≡ is_well_quoted rest
passes b rest h = rw h refl

-- ---- a byte that is written as digits

abbrev pub IsByte : ℕ → Type 0
IsByte b = b < 256

abbrev in_digits : ℕ → List ℕ → List ℕ
in_digits b rest = 92 ∷ (48 + b / 64 % 8) ∷ (48 + b / 8 % 8) ∷ (48 + b % 8) ∷ rest

digits_say : (b : ℕ) → IsByte b → octal_byte (48 + b / 64 % 8) (48 + b / 8 % 8) (48 + b % 8) ≡ Some b
digits_say b h = grind (arith, nat_tests, h)

no_digit : (n : ℕ) → n < 8 → (48 + n == 92) ≡ false
no_digit n h = grind (arith, nat_tests)

digits_pass : (b : ℕ) (rest : List ℕ) → IsByte b → is_well_quoted (in_digits b rest) ≡ is_well_quoted rest
digits_pass b rest h =
    rw (digits_say b h)
    (passes (48 + b / 64 % 8) ((48 + b / 8 % 8) ∷ (48 + b % 8) ∷ rest) (no_digit (b / 64 % 8) (omega arith))
    ∙ passes (48 + b / 8 % 8) ((48 + b % 8) ∷ rest) (no_digit (b / 8 % 8) (omega arith))
    ∙ passes (48 + b % 8) rest (no_digit (b % 8) (omega arith)))

-- ---- one byte after the other

byte_is_read : (t : Bool) (b : ℕ) (rest : List ℕ) → IsByte b → needs_quoting b ≡ t → unquoted (quoted_byte b ++ rest) ≡ b ∷ unquoted rest
byte_is_read true b rest h e = rw e (digits_in_front (in_digits b rest) b (digits_say b h))
byte_is_read false b rest h e = rw e (itself_in_front b rest (not_digits b rest (no_backslash b e)))

byte_passes : (t : Bool) (b : ℕ) (rest : List ℕ) → IsByte b → needs_quoting b ≡ t → is_well_quoted (quoted_byte b ++ rest) ≡ is_well_quoted rest
byte_passes true b rest h e = rw e (digits_pass b rest h)
byte_passes false b rest h e = rw e (passes b rest (no_backslash b e))

pub quoted_is_read : (name : List ℕ) → All IsByte name → unquoted (quoted name) ≡ name
quoted_is_read [] h = refl
quoted_is_read (b ∷ bs) h =
    byte_is_read (needs_quoting b) b (quoted bs) (All-head IsByte b bs h) refl ∙ ap (λ r. b ∷ r) (quoted_is_read bs (All-tail IsByte b bs h))

pub quoted_is_well : (name : List ℕ) → All IsByte name → is_well_quoted (quoted name) ≡ true
quoted_is_well [] h = refl
quoted_is_well (b ∷ bs) h =
    byte_passes (needs_quoting b) b (quoted bs) (All-head IsByte b bs h) refl ∙ quoted_is_well bs (All-tail IsByte b bs h)
