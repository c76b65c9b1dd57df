-- A caller's text, and the number in it.
use Rattle.std.proofs.Common.{length-append, ◌≡◌, ℕ, ◌<◌, ◌^◌, true, false, List, [], ◌∷◌, ◌++◌, length, drop, nat_le, nat_lt, Option, Some, None, All, refl, sym, ap, ◌∙◌, arith}
use Rattle.std.proofs.lemmas.Bool.Decides.{nat_tests}
use Rattle.std.proofs.lemmas.Fmt.{decimal_is_IsNumeral, length-decimal-le}
use Rattle.std.proofs.lemmas.List.Elements.{All-weaker, All-nil, All-cons, All-append}
use Rattle.std.proofs.lemmas.Str.Parse.{digit_from_value}
use Rattle.std.specs.Char.{is_ascii_digit}
use Rattle.std.specs.Fmt.{decimal}
use Rattle.std.specs.List.{list_all}
use Rattle.std.specs.Option.{is_some}
use Rattle.std.specs.Str.Parse.{AllDigits}
use Rattle.uug_talk.specs.Call.{number_word, call_text, number_told, or_told, first_told, number_in_call}
use Rattle.uug_talk.specs.Name.{IsNameByte, IsName}
use Rattle.uug_talk.specs.Texts.{IsPlain, IsHailText}
use Rattle.uug_talk.specs.Words.{words, is_space}
use Rattle.uug_talk.proofs.JoinedLemmas.{IsWord, IsWord-name, words-joined}
use Rattle.uug_talk.specs.declared.call.TheConstants.{NUMBER_DIGITS_MAX, NUMBER_MAX}

-- ---- reading word by word

pub no_words : (text : List ℕ) → words text ≡ [] → number_in_call text ≡ None
unfolding first_told
no_words text e = rw e refl

pub no_words_left : (rest : List ℕ) → words rest ≡ [] → first_told (words rest) ≡ None
unfolding first_told
no_words_left rest e = rw e refl

told_first : (told others : Option ℕ) → true ≡ is_some told → told ≡ or_told told others
told_first None others e = absurd cc
told_first (Some n) others e = refl

pub told_now : (rest word behind : List ℕ) (told : Option ℕ) → words rest ≡ word ∷ words behind → told ≡ number_told word
    → true ≡ is_some told → told ≡ first_told (words rest)
unfolding first_told
told_now rest word behind told e t h =
    told_first told (first_told (words behind)) h ∙ ap (λ o. or_told o (first_told (words behind))) t ∙ sym (ap first_told e)

told_after : (told others : Option ℕ) → false ≡ is_some told → or_told told others ≡ others
told_after None others e = refl
told_after (Some n) others e = absurd cc

pub told_later : (rest word behind : List ℕ) (told : Option ℕ) → words rest ≡ word ∷ words behind → told ≡ number_told word
    → false ≡ is_some told → first_told (words rest) ≡ first_told (words behind)
unfolding first_told
told_later rest word behind told e t h =
    ap first_told e ∙ sym (ap (λ o. or_told o (first_told (words behind))) t) ∙ told_after told (first_told (words behind)) h

-- ---- what was written

all_digits : (ds : List ℕ) → AllDigits 10 ds → list_all is_ascii_digit ds ≡ true
all_digits [] d = refl
all_digits (c ∷ cs) d =
    let bound = digit_from_value c d.0 in
    let this : is_ascii_digit c ≡ true = grind (arith, nat_tests, bound) in
    rw (this, all_digits cs d.1) refl

are_name_bytes : (ds : List ℕ) → AllDigits 10 ds → All IsNameByte ds
are_name_bytes [] d = All-nil IsNameByte
are_name_bytes (c ∷ cs) d =
    let bound = digit_from_value c d.0 in
    All-cons IsNameByte c cs (omega (arith, bound), omega (arith, bound)) (are_name_bytes cs d.1)

-- a number's word has the bytes of a name, and is as short as one
pub IsName-number : (n : ℕ) → n < 2 ^ 32 → IsName (number_word n)
IsName-number n h =
    let short = length-decimal-le 10 n (omega arith) (omega arith) (omega arith) in
    record {
      some = omega arith;
      short = omega (arith, short);
      printing =
          All-cons IsNameByte 45 (81 ∷ decimal n) (omega arith, omega arith)
          (All-cons IsNameByte 81 (decimal n) (omega arith, omega arith) (are_name_bytes (decimal n) (decimal_is_IsNumeral n (omega arith)).0.1));
    }

pub told_back : (n : ℕ) → n < 2 ^ 32 → number_told (number_word n) ≡ Some n
told_back n h =
    let numeral = decimal_is_IsNumeral n (omega arith) in
    let short : nat_le (length (decimal n)) NUMBER_DIGITS_MAX ≡ true = grind (arith, nat_tests, length-decimal-le 10 n (omega arith) (omega arith) (omega arith)) in
    let some : nat_lt 0 (length (decimal n)) ≡ true = grind (arith, nat_tests, numeral.0.0) in
    let fits : nat_le n NUMBER_MAX ≡ true = grind (arith, nat_tests) in
    rw (short, some, all_digits (decimal n) numeral.0.1, numeral.1, fits) refl

-- a name's bytes may stand in a handshake text
plain_byte : (b : ℕ) → IsNameByte b → IsPlain b
plain_byte b h = record { no_start = λ e. absurd (omega (arith, h.0, e)); no_zero = λ e. absurd (omega (arith, h.0, e)); no_line_feed = λ e. absurd (omega (arith, h.0, e)) }

pub plain_name : (name : List ℕ) → IsName name → All IsPlain name
plain_name name h = All-weaker IsNameByte IsPlain plain_byte name h.printing

first_word : (name : List ℕ) → IsName name → IsWord (83 ∷ name)
first_word name h = record { some = omega arith; solid = All-cons (λ b. is_space b ≡ false) 83 name refl (IsWord-name name h).solid }

-- both at once: what is told in a caller's text is what was written, and it may be written as a handshake text
pub call_without_number : (text name : List ℕ) → IsName name → text ≡ call_text name None → number_in_call text ≡ None
unfolding first_told
call_without_number text name h e =
    ap number_in_call e ∙ ap (λ ws. first_told (drop 1 ws)) (words-joined ((83 ∷ name) ∷ []) (first_word name h, tt))

pub call_with_number : (text name : List ℕ) (n : ℕ) → IsName name → n < 2 ^ 32 → text ≡ call_text name (Some n) → number_in_call text ≡ Some n
unfolding first_told
call_with_number text name n h fits e =
    ap number_in_call e
    ∙ ap (λ ws. first_told (drop 1 ws)) (words-joined ((83 ∷ name) ∷ number_word n ∷ []) (first_word name h, (IsWord-name (number_word n) (IsName-number n fits), tt)))
    ∙ ap (λ o. or_told o None) (told_back n fits)

pub hail_without_number : (text name : List ℕ) → IsName name → text ≡ call_text name None → IsHailText text
hail_without_number text name h e = rw e (record {
  short = omega (arith, h.short);
  plain = All-cons IsPlain 83 name (plain_byte 83 (omega arith, omega arith)) (plain_name name h);
})

pub hail_with_number : (text name : List ℕ) (n : ℕ) → IsName name → n < 2 ^ 32 → text ≡ call_text name (Some n) → IsHailText text
hail_with_number text name n h fits e = let number = IsName-number n fits in rw e (record {
  short = omega (arith, h.short, length-decimal-le 10 n (omega arith) (omega arith) (omega arith), length-append name (32 ∷ number_word n));
  plain = All-cons IsPlain 83 (name ++ 32 ∷ number_word n) (plain_byte 83 (omega arith, omega arith))
      (All-append IsPlain name (32 ∷ number_word n) (plain_name name h)
      (All-cons IsPlain 32 (number_word n) (record { no_start = λ z. absurd (omega (arith, z)); no_zero = λ z. absurd (omega (arith, z)); no_line_feed = λ z. absurd (omega (arith, z)) })
      (plain_name (number_word n) number)));
})
