-- What a word of digits is read as.
use Rattle.std.proofs.Common.{◌≡◌, ℕ, ◌<◌, ◌^◌, true, false, List, nat_lt, Some, Result, Ok, Err, refl, ap, arith}
use Rattle.std.proofs.lemmas.Bool.Decides.{nat_tests}
use Rattle.std.specs.Result.{result_ok}
use Rattle.std.specs.Str.Parse.{ParsesUnsigned, digits_value}
use Rattle.uug_talk.proofs.DigitLemmas.{no_sign, numeral_parses}
use Rattle.uug_talk.specs.Digests.{hex_number, is_hex_numeral}

small : (n : ℕ) → n < 2 ^ 32 → nat_lt n (2 ^ 32) ≡ true
small n h = grind (arith, nat_tests, h)

large : (n : ℕ) → (n < 2 ^ 32 → ⊥) → nat_lt n (2 ^ 32) ≡ false
large n h = grind (arith, nat_tests, h)

-- a numeral is the number that it writes, where that fits
pub parsed : {E : Type 0} (word text : List ℕ) (r : Result ℕ E) → is_hex_numeral word ≡ true → text ≡ word
    → ParsesUnsigned 32 16 text r → result_ok r ≡ hex_number word
parsed {E} word text (Ok x) numeral same parses =
    let p : ParsesUnsigned {E = E} 32 16 word (Ok x) = rw same at parses in
    let q = rw (no_sign word numeral) at p in
    rw (numeral, small (digits_value 16 word) q.0.1) (ap Some q.1)
parsed {E} word text (Err e) numeral same parses =
    let p : ParsesUnsigned {E = E} 32 16 word (Err e) = rw same at parses in
    let q = rw (no_sign word numeral) at p in
    let out = large (digits_value 16 word) (λ fits. q (numeral_parses word numeral, fits)) in
    rw (numeral, out) refl
