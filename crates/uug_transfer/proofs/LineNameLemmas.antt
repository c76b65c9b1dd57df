-- The parts of a name of a line, as std cuts them.
use Rattle.std.proofs.Common.{◌≡◌, ℕ, ◌<◌, ◌≤◌, ◌^◌, Bool, true, false, List, [], ◌∷◌, length, drop, nat_le, nat_lt, Option, Some, None, MatchOption, Result, Ok, Err, Bor, refl, sym, ap, ◌∙◌, arith}
use Rattle.std.proofs.lemmas.Bool.Decides.{nat_tests}
use Rattle.std.proofs.lemmas.Str.Parse.{digit_from_value}
use Rattle.std.proofs.lemmas.Str.Pattern.{starts_text}
use Rattle.std.specs.Char.{is_ascii_digit}
use Rattle.std.specs.Cmp.Derive.{both_true}
use Rattle.std.specs.List.{list_all}
use Rattle.std.specs.Option.{option_copied}
use Rattle.std.specs.Result.{OkIff, result_ok}
use Rattle.std.specs.Str.Parse.{AllDigits, IsNumeral, ParsesUnsigned, digits_value, without_leading_plus}
use Rattle.std.specs.Str.Pattern.{FindsTextPrefix, StripsPrefix}
use Rattle.uug_talk.specs.Number.{is_numeral, number_of}
use Rattle.uug_talk.proofs.NumberLemmas.{numeral_parses}
use Rattle.uug_transfer.specs.LineNames.{behind, port_of}

pub behind_is : (word text : List ℕ) (r : Option (Bor (List ℕ)))
    → MatchOption r (FindsTextPrefix word text None) (λ x. StripsPrefix (FindsTextPrefix word) text x.now)
    → option_copied r ≡ behind word text
behind_is word text None h = rw (sym (starts_text false word text h)) refl
behind_is word text (Some x) h =
    let starts = starts_text true word text (h.0, h.1, rw h.1.0 h.1.2) in
    rw (sym starts) (ap Some (h.2 ∙ ap (λ n. drop n text) h.1.0))

digits : (word : List ℕ) → AllDigits 10 word → list_all is_ascii_digit word ≡ true
digits [] h = refl
digits (c ∷ cs) h =
    let within = digit_from_value c h.0 in
    both_true (grind (arith, nat_tests, within)) (digits cs h.1)

numeral : (word : List ℕ) → IsNumeral 10 word → is_numeral word ≡ true
numeral [] h = absurd (omega (arith, h.0))
numeral (c ∷ cs) h =
    let some : nat_lt 0 (length (c ∷ cs)) ≡ true = grind (arith, nat_tests) in
    both_true some (digits (c ∷ cs) h.1)

number_is : {E : Type 0} (word : List ℕ) (r : Result ℕ E)
    → OkIff r (IsNumeral 10 word × (digits_value 10 word < 2 ^ 16)) (digits_value 10 word)
    → result_ok r ≡ number_of 65535 word
number_is word (Ok n) h =
    let small : nat_le (digits_value 10 word) 65535 ≡ true = grind (arith, nat_tests, h.0.1) in
    rw (numeral word h.0.0, small) (ap Some h.1)
number_is word (Err e) h = not_both (is_numeral word) refl (nat_le (digits_value 10 word) 65535) refl where
  not_both : (a : Bool) → is_numeral word ≡ a → (b : Bool) → nat_le (digits_value 10 word) 65535 ≡ b → None ≡ number_of 65535 word
  not_both false is_a b is_b = rw is_a refl
  not_both true is_a false is_b = rw (is_a, is_b) refl
  not_both true is_a true is_b =
      let le : digits_value 10 word ≤ 65535 = grind (arith, nat_tests, is_b) in
      absurd (h (numeral_parses word is_a, omega (arith, le)))

pub port_is : {E : Type 0} (text : List ℕ) (r : Result ℕ E) → ParsesUnsigned 16 10 text r → result_ok r ≡ port_of text
port_is text r h = number_is (without_leading_plus text) r h
