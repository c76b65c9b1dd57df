-- Which words write bytes in hexadecimal digits.
use Rattle.std.proofs.Common.{◌≡◌, ◌==◌, ◌&&◌, ◌||◌, ℕ, ◌%◌, Bool, true, false, List, codes, length, Option, Some, None, Result, Ok, Err, MatchBool, is_some, refl, sym, ◌∙◌, arith}
use Rattle.std.proofs.lemmas.Bool.Decides.{nat_tests}
use Rattle.std.proofs.lemmas.List.Elements.{All-weaker}
use Rattle.std.proofs.lemmas.List.Sums.{AllPass-from_list_all, list_all-from_AllPass}
use Rattle.std.specs.Char.{is_ascii_hexdigit}
use Rattle.std.specs.List.{list_all}
use Rattle.std.specs.Result.{result_ok}
use Rattle.std.specs.Str.{bytes_eq}
use Rattle.hex.proofs.HexLemmas.{decode_of-digits, decode_of-odd, decode_of-ok}
use Rattle.hex.specs.Hex.{decode_of, is_hex_digit}
use Rattle.hex.specs.declared.error.FromHexError.{FromHexError}
use Rattle.uug_sim_script.specs.Fields.{bytes_of, hex_bytes, or_none}

digit_reads : (b : ℕ) → is_ascii_hexdigit b ≡ true → is_hex_digit b ≡ true
digit_reads b e = grind (arith, nat_tests)

digit_is : (b : ℕ) → is_hex_digit b ≡ true → is_ascii_hexdigit b ≡ true
digit_is b e = grind (arith, nat_tests)

abbrev looks_hex : List ℕ → Bool
looks_hex word = (length word % 2 == 0) && list_all is_ascii_hexdigit word

pairs_read : (word : List ℕ) → is_some (result_ok (decode_of word)) ≡ looks_hex word
pairs_read word = by_even (length word % 2 == 0) refl where
  by_digits : length word % 2 ≡ 0 → (b : Bool) → list_all is_ascii_hexdigit word ≡ b → is_some (result_ok (decode_of word)) ≡ b
  by_digits even true t =
      let read = decode_of-digits word even (All-weaker (λ b. is_ascii_hexdigit b ≡ true) (λ b. is_hex_digit b ≡ true) digit_reads word (AllPass-from_list_all is_ascii_hexdigit word t)) in
      rw read.1 refl
  by_digits even false t = of_result (decode_of word) refl where
    of_result : (r : Result (List ℕ) FromHexError) → decode_of word ≡ r → is_some (result_ok r) ≡ false
    of_result (Err e) f = refl
    of_result (Ok bytes) f =
        let all : list_all is_ascii_hexdigit word ≡ true =
        list_all-from_AllPass is_ascii_hexdigit word (All-weaker (λ b. is_hex_digit b ≡ true) (λ b. is_ascii_hexdigit b ≡ true) digit_is word (decode_of-ok word bytes f).1) in
        absurd cc

  by_even : (b : Bool) → (length word % 2 == 0) ≡ b → is_some (result_ok (decode_of word)) ≡ (b && list_all is_ascii_hexdigit word)
  by_even true t = by_digits (grind (arith, nat_tests)) (list_all is_ascii_hexdigit word) refl
  by_even false t =
      let odd : length word % 2 ≡ 1 = grind (arith, nat_tests) in
      rw (decode_of-odd word odd) refl

-- a word is read as bytes where it is a dash, or has an even number of digits and no other characters
hex_reads : (word : List ℕ) → is_some (hex_bytes word) ≡ (bytes_eq word (codes "-") || looks_hex word)
hex_reads word = by_dash (bytes_eq word (codes "-")) refl where
  by_dash : (b : Bool) → bytes_eq word (codes "-") ≡ b → is_some (hex_bytes word) ≡ (b || looks_hex word)
  by_dash true t = rw t refl
  by_dash false t = rw t (pairs_read word)

some_bytes : (o : Option (List ℕ)) → is_some o ≡ true → o ≡ Some (or_none o)
some_bytes None e = absurd cc
some_bytes (Some bytes) e = refl

bytes_read : (word : List ℕ) → (bytes_eq word (codes "-") || looks_hex word) ≡ true → hex_bytes word ≡ Some (bytes_of word)
bytes_read word e = some_bytes (hex_bytes word) (hex_reads word ∙ e)

no_bytes : (o : Option (List ℕ)) → is_some o ≡ false → o ≡ None
no_bytes None e = refl
no_bytes (Some bytes) e = absurd cc

no_bytes_read : (word : List ℕ) → (bytes_eq word (codes "-") || looks_hex word) ≡ false → hex_bytes word ≡ None
no_bytes_read word e = no_bytes (hex_bytes word) (hex_reads word ∙ e)

pub hex_matches : (word : List ℕ) (b : Bool) → b ≡ (bytes_eq word (codes "-") || looks_hex word)
    → MatchBool b (hex_bytes word ≡ Some (bytes_of word)) (hex_bytes word ≡ None)
hex_matches word true e = bytes_read word (sym e)
hex_matches word false e = no_bytes_read word (sym e)
