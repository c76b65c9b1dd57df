-- Hexadecimal digits: what is written is read back.
use Rattle.std.proofs.Common.{◌≡◌, ℕ, zero, suc, ◌+◌, ◌*◌, ◌/◌, ◌%◌, ◌<◌, ◌^◌, ◌==◌, true, false, List, [], ◌∷◌, length, nat_lt, slice_index, Some, Ok, refl, ◌∙◌, arith}
use Rattle.std.proofs.lemmas.Bool.{and_parts}
use Rattle.std.proofs.lemmas.Bool.Decides.{nat_tests}
use Rattle.std.proofs.lemmas.List.Elements.{All-weaker}
use Rattle.std.proofs.lemmas.List.Sums.{list_all-from_AllPass}
use Rattle.std.proofs.lemmas.Str.{IsUtf8-from_ascii}
use Rattle.std.proofs.lemmas.Str.Ascii.{IsAscii-nil, IsAscii-cons}
use Rattle.std.specs.Char.{digit_value, is_ascii_hexdigit}
use Rattle.std.specs.Int.{to_be_bytes, w32}
use Rattle.std.specs.List.{AllPass, list_all}
use Rattle.std.specs.Str.{IsAscii, IsUtf8}
use Rattle.std.specs.Str.Parse.{AllDigits, IsNumeral, digits_value, without_leading_plus}
use Rattle.hex.proofs.HexLemmas.{IsDigits-lower_digits, decode_of-encode_lower, decode_of-ok, decode_sized-twice, length-encode_with}
use Rattle.hex.specs.Hex.{IsBytes, decode_sized, encode_lower, encode_with, hex_digit_value, is_hex_digit, lower_digits}
use Rattle.uug_talk.specs.Digests.{hex_number, is_hex_numeral}

-- ---- digits

pub ascii_digit : (c : ℕ) → is_hex_digit c ≡ true → is_ascii_hexdigit c ≡ true
ascii_digit c h = grind (arith, nat_tests)

pub digit_no_space : (c : ℕ) → is_hex_digit c ≡ true → (c ≡ 32 → ⊥)
digit_no_space c h e = grind (arith, nat_tests)

pub digit_not_zero : (c : ℕ) → is_hex_digit c ≡ true → (c ≡ 0 → ⊥)
digit_not_zero c h e = grind (arith, nat_tests)

below_sixteen : (c : ℕ) → is_ascii_hexdigit c ≡ true → digit_value c < 16
below_sixteen c h = grind (arith, nat_tests)

value_of : (c d : ℕ) → hex_digit_value c ≡ Some d → digit_value c ≡ d
value_of c d h = grind (arith, nat_tests)

-- ---- numerals

digits_are_ascii : (word : List ℕ) → list_all is_ascii_hexdigit word ≡ true → IsAscii word
digits_are_ascii [] e = IsAscii-nil
digits_are_ascii (c ∷ cs) e =
    let p = and_parts (is_ascii_hexdigit c) (list_all is_ascii_hexdigit cs) e in
    IsAscii-cons c cs (grind (arith, nat_tests, p.0)) (digits_are_ascii cs p.1)

all_digits : (word : List ℕ) → list_all is_ascii_hexdigit word ≡ true → AllDigits 16 word
all_digits [] e = tt
all_digits (c ∷ cs) e =
    let p = and_parts (is_ascii_hexdigit c) (list_all is_ascii_hexdigit cs) e in
    (below_sixteen c p.0, all_digits cs p.1)

pub numeral_is_text : (word : List ℕ) → is_hex_numeral word ≡ true → IsUtf8 word
numeral_is_text word e =
    IsUtf8-from_ascii word (digits_are_ascii word (and_parts (nat_lt 0 (length word)) (list_all is_ascii_hexdigit word) e).1)

pub numeral_parses : (word : List ℕ) → is_hex_numeral word ≡ true → IsNumeral 16 word
numeral_parses [] e = absurd cc
numeral_parses (c ∷ cs) e =
    let p = and_parts (nat_lt 0 (length (c ∷ cs))) (list_all is_ascii_hexdigit (c ∷ cs)) e in
    (omega arith, all_digits (c ∷ cs) p.1)

pub no_sign : (word : List ℕ) → is_hex_numeral word ≡ true → without_leading_plus word ≡ word
no_sign [] e = refl
no_sign (c ∷ cs) e =
    let q = and_parts (nat_lt 0 (length (c ∷ cs))) (list_all is_ascii_hexdigit (c ∷ cs)) e in
    let p = and_parts (is_ascii_hexdigit c) (list_all is_ascii_hexdigit cs) q.1 in
    let other : (c == 43) ≡ false = grind (arith, nat_tests, p.0) in
    rw other refl

-- ---- bytes that are written

pub encoded_digits : (bytes : List ℕ) → IsBytes bytes → AllPass is_hex_digit (encode_lower bytes)
encoded_digits bytes h = (decode_of-ok (encode_lower bytes) bytes (decode_of-encode_lower bytes h)).1

pub encoded_ascii : (bytes : List ℕ) → IsBytes bytes → list_all is_ascii_hexdigit (encode_lower bytes) ≡ true
encoded_ascii bytes h =
    list_all-from_AllPass is_ascii_hexdigit (encode_lower bytes)
    (All-weaker (λ c. is_hex_digit c ≡ true) (λ c. is_ascii_hexdigit c ≡ true) ascii_digit (encode_lower bytes) (encoded_digits bytes h))

pub encoded_back : (bytes : List ℕ) (n : ℕ) → IsBytes bytes → length bytes ≡ n → decode_sized (encode_lower bytes) n ≡ Ok bytes
encoded_back bytes n h len =
    let twice = length-encode_with lower_digits bytes in
    decode_sized-twice (encode_lower bytes) n (omega (arith, twice, len)) ∙ decode_of-encode_lower bytes h

-- ---- the size

pub size_bytes : (n : ℕ) → IsBytes (to_be_bytes w32 n)
size_bytes n zero = omega arith
size_bytes n (suc zero) = omega arith
size_bytes n (suc (suc zero)) = omega arith
size_bytes n (suc (suc (suc zero))) = omega arith
size_bytes n (suc (suc (suc (suc i)))) = omega arith

high : (b : ℕ) → b < 256 → digit_value (slice_index lower_digits (b / 16)) ≡ b / 16
high b h = value_of (slice_index lower_digits (b / 16)) (b / 16) (IsDigits-lower_digits (b / 16) (omega (arith, h)))

low : (b : ℕ) → digit_value (slice_index lower_digits (b % 16)) ≡ b % 16
low b = value_of (slice_index lower_digits (b % 16)) (b % 16) (IsDigits-lower_digits (b % 16) (omega arith))

-- the number that the digits of four bytes write
four_bytes : (a b c d : ℕ) → a < 256 → b < 256 → c < 256 → d < 256
    → digits_value 16 (encode_lower (a ∷ b ∷ c ∷ d ∷ [])) ≡ ((a * 256 + b) * 256 + c) * 256 + d
unfolding encode_with
four_bytes a b c d ha hb hc hd =
    let a1 = high a ha in
    let a0 = low a in
    let b1 = high b hb in
    let b0 = low b in
    let c1 = high c hc in
    let c0 = low c in
    let d1 = high d hd in
    let d0 = low d in
    omega (arith, a1, a0, b1, b0, c1, c0, d1, d0)

size_value : (n : ℕ) → n < 2 ^ 32 → digits_value 16 (encode_lower (to_be_bytes w32 n)) ≡ n
size_value n h =
    four_bytes (n / 256 ^ 3 % 256) (n / 256 ^ 2 % 256) (n / 256 ^ 1 % 256) (n % 256) (omega arith) (omega arith) (omega arith) (omega arith)
    ∙ omega (arith, h)

pub size_back : (n : ℕ) → n < 2 ^ 32 → hex_number (encode_lower (to_be_bytes w32 n)) ≡ Some n
size_back n h =
    let digits = encoded_ascii (to_be_bytes w32 n) (size_bytes n) in
    let twice = length-encode_with lower_digits (to_be_bytes w32 n) in
    let some : nat_lt 0 (length (encode_lower (to_be_bytes w32 n))) ≡ true = grind (arith, nat_tests, twice) in
    let fits : nat_lt n (2 ^ 32) ≡ true = grind (arith, nat_tests, h) in
    rw (some, digits, size_value n h, fits) refl
