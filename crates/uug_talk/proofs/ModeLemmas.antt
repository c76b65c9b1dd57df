-- Modes as words.
use Rattle.std.proofs.Common.{◌≡◌, ℕ, true, List, length, nat_lt, nat_le, Ok, Err, refl, sym, ◌∙◌, arith}
use Rattle.std.proofs.lemmas.Bool.{false≢true}
use Rattle.std.proofs.lemmas.Bool.Decides.{nat_tests}
use Rattle.std.proofs.lemmas.List.Elements.{All-weaker}
use Rattle.std.proofs.lemmas.List.Sums.{AllPass-from_list_all, list_all-from_AllPass}
use Rattle.std.specs.List.{list_all}
use Rattle.uug_talk.specs.declared.error.BadText.{BadText}
use Rattle.uug_talk.specs.declared.error.BadText.TheVariants as fault
use Rattle.uug_talk.specs.declared.mode.TheConstants.{MODE_DIGITS_MAX}
use Rattle.uug_talk.specs.Mode.{IsOctalDigit, IsModeWord, is_octal_digit, is_mode_word, mode_of, mode_read}
use Rattle.uug_talk.proofs.ResultLemmas.{guard_ok, guard_err, three_tests}

octal_passes : (b : ℕ) → IsOctalDigit b → is_octal_digit b ≡ true
octal_passes b h = grind (arith, nat_tests)

octal_from_pass : (b : ℕ) → is_octal_digit b ≡ true → IsOctalDigit b
octal_from_pass b h = grind (arith, nat_tests)

pub is_mode_word_from : (word : List ℕ) → IsModeWord word → is_mode_word word ≡ true
is_mode_word_from word h =
    let digits : list_all is_octal_digit word ≡ true = list_all-from_AllPass is_octal_digit word (All-weaker IsOctalDigit (λ b. is_octal_digit b ≡ true) octal_passes word h.digits) in
    rw digits (grind (arith, nat_tests, h.some, h.short))

pub IsModeWord-from : (word : List ℕ) → is_mode_word word ≡ true → IsModeWord word
IsModeWord-from word e =
    let t = three_tests (nat_lt 0 (length word)) (nat_le (length word) MODE_DIGITS_MAX) (list_all is_octal_digit word) e in
    record {
      some = grind (arith, nat_tests, t.0);
      short = grind (arith, nat_tests, t.1);
      digits = All-weaker (λ b. is_octal_digit b ≡ true) IsOctalDigit octal_from_pass word (AllPass-from_list_all is_octal_digit word t.2);
    }

-- a mode's word is read as its mode
pub mode_read-of : (word : List ℕ) → IsModeWord word → mode_read word ≡ Ok (mode_of word)
mode_read-of word h = rw (is_mode_word_from word h) refl

-- what is read is a mode's word
pub mode_from_read : (word : List ℕ) (mode : ℕ) → mode_read word ≡ Ok mode → IsModeWord word × (mode ≡ mode_of word)
mode_from_read word mode e =
    let g = guard_ok (is_mode_word word) (mode_of word) mode fault.Mode e in
    (IsModeWord-from word g.0, cc)

pub no_mode_from_err : (word : List ℕ) (d : BadText) → mode_read word ≡ Err d → (d ≡ fault.Mode) × (¬ IsModeWord word)
no_mode_from_err word d e =
    let g = guard_err (is_mode_word word) (mode_of word) fault.Mode d e in
    (sym g.1, λ n. false≢true (sym g.0 ∙ is_mode_word_from word n))
