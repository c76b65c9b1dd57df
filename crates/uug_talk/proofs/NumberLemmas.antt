-- Words of decimal digits.
use Rattle.std.proofs.Common.{◌≡◌, ◌==◌, ℕ, ◌<◌, ◌≤◌, ◌^◌, Bool, true, false, List, [], ◌∷◌, length, nat_le, nat_lt, None, Result, Err, refl, arith}
use Rattle.std.proofs.lemmas.Bool.{and_parts}
use Rattle.std.proofs.lemmas.Bool.Decides.{nat_tests}
use Rattle.std.proofs.lemmas.Str.{IsUtf8-from_ascii}
use Rattle.std.proofs.lemmas.Str.Ascii.{IsAscii-nil, IsAscii-cons}
use Rattle.std.specs.Char.{is_ascii_digit}
use Rattle.std.specs.List.{list_all}
use Rattle.std.specs.Str.{IsAscii, IsUtf8}
use Rattle.std.specs.Str.Parse.{AllDigits, IsNumeral, ParsesUnsigned, digits_value, without_leading_plus}
use Rattle.uug_talk.specs.Number.{is_numeral, number_of}

digits_are_ascii : (word : List ℕ) → list_all is_ascii_digit word ≡ true → IsAscii word
digits_are_ascii [] e = IsAscii-nil
digits_are_ascii (c ∷ cs) e =
    let p = and_parts (is_ascii_digit c) (list_all is_ascii_digit cs) e in
    IsAscii-cons c cs (grind (arith, nat_tests, p.0)) (digits_are_ascii cs p.1)

all_digits : (word : List ℕ) → list_all is_ascii_digit word ≡ true → AllDigits 10 word
all_digits [] e = tt
all_digits (c ∷ cs) e =
    let p = and_parts (is_ascii_digit c) (list_all is_ascii_digit cs) e in
    (grind (arith, nat_tests, p.0), all_digits cs p.1)

pub numeral_is_text : (word : List ℕ) → is_numeral word ≡ true → IsUtf8 word
numeral_is_text word e = IsUtf8-from_ascii word (digits_are_ascii word (and_parts (nat_lt 0 (length word)) (list_all is_ascii_digit word) e).1)

pub numeral_parses : (word : List ℕ) → is_numeral word ≡ true → IsNumeral 10 word
numeral_parses [] e = absurd cc
numeral_parses (c ∷ cs) e =
    let p = and_parts (nat_lt 0 (length (c ∷ cs))) (list_all is_ascii_digit (c ∷ cs)) e in
    (omega arith, all_digits (c ∷ cs) p.1)

-- a numeral has no sign
no_sign : (word : List ℕ) → is_numeral word ≡ true → without_leading_plus word ≡ word
no_sign [] e = refl
no_sign (c ∷ cs) e =
    let q = and_parts (nat_lt 0 (length (c ∷ cs))) (list_all is_ascii_digit (c ∷ cs)) e in
    let p = and_parts (is_ascii_digit c) (list_all is_ascii_digit cs) q.1 in
    let other : (c == 43) ≡ false = grind (arith, nat_tests, p.0) in
    rw other refl

-- what no number of this type is, is too large
pub number_not_found : {E : Type 0} (most : ℕ) (word text : List ℕ) (r : Result ℕ E) (e : E) → is_numeral word ≡ true → text ≡ word → most < 2 ^ 32
    → ParsesUnsigned 32 10 text r → r ≡ Err e → None ≡ number_of most word
number_not_found {E} most word text r e numeral same fits parses refused =
    let p : ParsesUnsigned {E = E} 32 10 word (Err e) = rw (same, refused) at parses in
    let q = rw (no_sign word numeral) at p in
    let digits = numeral_parses word numeral in
    let large : nat_le (digits_value 10 word) most ≡ false = not_small (nat_le (digits_value 10 word) most) refl q digits in
    rw (numeral, large) refl where
      not_small : (b : Bool) → nat_le (digits_value 10 word) most ≡ b → (IsNumeral 10 word × (digits_value 10 word < 2 ^ 32) → ⊥) → IsNumeral 10 word → b ≡ false
      not_small false t unfit digits = refl
      not_small true t unfit digits = absurd (unfit (digits, (let le : digits_value 10 word ≤ most = grind (arith, nat_tests) in omega arith)))
