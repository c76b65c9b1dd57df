-- What the function reads of single words, and what the table of lines says of them, agree.
use Rattle.std.proofs.Common.{◌≡◌, ◌&&◌, ℕ, zero, suc, ◌+◌, ◌*◌, ◌%◌, ◌<◌, ◌≤◌, Bool, true, false, if◌then◌else◌, List, [], ◌∷◌, length, codes, All, nat_le, nat_lt, slice_index, lit≤, Option, Some, None, Result, Ok, Err, refl, sym, ap, subst, ◌∙◌, arith}
use Rattle.std.proofs.lemmas.Bool.{and_parts}
use Rattle.std.proofs.lemmas.Bool.Decides.{nat_tests}
use Rattle.std.proofs.lemmas.List.Elements.{All-head, All-tail, All-weaker}
use Rattle.std.proofs.lemmas.List.Sums.{AllPass-from_list_all, list_all-from_AllPass}
use Rattle.std.proofs.lemmas.Slice.Eq.{bytes_eq-Decides}
use Rattle.std.specs.Char.{is_ascii_digit}
use Rattle.std.specs.List.{list_all}
use Rattle.std.specs.Result.{result_ok}
use Rattle.std.specs.Str.{bytes_eq}
use Rattle.std.specs.Str.Parse.{AllDigits, IsNumeral, digits_value}
use Rattle.hex.proofs.HexLemmas.{decode_of-ok, decode_sized-ok, decode_sized-twice}
use Rattle.hex.specs.Hex.{decode_of, decode_sized}
use Rattle.hex.specs.declared.error.FromHexError.{FromHexError}
use Rattle.hex.specs.declared.error.FromHexError.TheVariants.{OddLength}
use Rattle.uug_link.specs.Announced.{Announced, quiet_as, short_as}
use Rattle.uug_link.specs.declared.limits.TheConstants.{MESSAGE_MAX, SIZE_CODES, WINDOW_MAX}
use Rattle.uug_talk.specs.declared.gather.TheConstants.{FILE_LIMIT_MAX}
use Rattle.uug_link.specs.Terms.{size_of_code}
use Rattle.uug_talk.specs.Mode.{IsOctalDigit, IsModeWord, is_octal_digit, is_mode_word, mode_of, mode_read, octal_value}
use Rattle.uug_talk.specs.declared.error.BadText.TheVariants as bad_text
use Rattle.uug_talk.specs.Name.{IsName, IsNameByte, is_name, is_name_byte, name_of}
use Rattle.uug_talk.specs.declared.mode.TheConstants.{MODE_MAX}
use Rattle.uug_talk.specs.declared.name.TheConstants.{NAME_MAX}
use Rattle.uug_sim_script.specs.declared.fields.TheConstants.{MODE_DIGITS}
use Rattle.uug_talk.specs.Number.{is_numeral, number_of}
use Rattle.uug_talk.specs.Chained.{◌>>=◌}
use Rattle.uug_sim_script.specs.Fields.{limit_of_word, limit_within, mode_of_word, hex_bytes, first_byte, byte_of, code_of_size, is_window, window_in, window_of, announcement, announcement_of}
use Rattle.uug_sim_script.specs.LineSays.{WritesNumber, Announces, WritesMode, WritesBytes, dash, pairs}
use Rattle.uug_talk.proofs.NumberLemmas.{numeral_parses}
use Rattle.uug_sim_script.proofs.FieldLemmas.{announced_as, code_of_its_size, size_of_its_code}

-- ---- steps that may have no answer

pub bind_some : {A B : Type 0} (o : Option A) (f : A → Option B) (y : B) → (o >>= f) ≡ Some y → (x : A) × (o ≡ Some x) × (f x ≡ Some y)
bind_some (Some x) f y e = (x, refl, e)
bind_some None f y e = absurd cc

pub some_if : {A : Type 0} (b : Bool) (x y : A) → (if b then Some x else None) ≡ Some y → (b ≡ true) × (x ≡ y)
some_if true x y e = (refl, cc)
some_if false x y e = absurd cc

three_tests : (a b c : Bool) → (a && b && c) ≡ true → (a ≡ true) × (b ≡ true) × (c ≡ true)
three_tests true true true e = (refl, refl, refl)
three_tests true true false e = absurd cc
three_tests true false c e = absurd cc
three_tests false b c e = absurd cc

pub same_bytes : (xs ys : List ℕ) → bytes_eq xs ys ≡ true → xs ≡ ys
same_bytes xs ys e = (bytes_eq-Decides xs ys).0 e

-- ---- names

name_byte_passes : (b : ℕ) → IsNameByte b → is_name_byte b ≡ true
name_byte_passes b h = grind (arith, nat_tests)

name_byte_from_pass : (b : ℕ) → is_name_byte b ≡ true → IsNameByte b
name_byte_from_pass b h = grind (arith, nat_tests)

name_passes : (word : List ℕ) → IsName word → is_name word ≡ true
name_passes word h =
    let printing : list_all is_name_byte word ≡ true = list_all-from_AllPass is_name_byte word (All-weaker IsNameByte (λ b. is_name_byte b ≡ true) name_byte_passes word h.printing) in
    rw printing (grind (arith, nat_tests, h.some, h.short))

pub name_of_name : (word : List ℕ) → IsName word → name_of word ≡ Some word
name_of_name word h = rw (name_passes word h) refl

pub name_is : (word name : List ℕ) → name_of word ≡ Some name → IsName name × (word ≡ name)
name_is word name e = by_pass (is_name word) refl where
  by_pass : (b : Bool) → is_name word ≡ b → IsName name × (word ≡ name)
  by_pass true t =
      let parts = three_tests (nat_lt 0 (length word)) (nat_le (length word) NAME_MAX) (list_all is_name_byte word) t in
      let found : Some word ≡ Some name = sym (rw t refl) ∙ e in
      let same : word ≡ name = cc in (
        subst IsName same (record {
          some = grind (arith, nat_tests, parts.0);
          short = grind (arith, nat_tests, parts.1);
          printing = All-weaker (λ b. is_name_byte b ≡ true) IsNameByte name_byte_from_pass word (AllPass-from_list_all is_name_byte word parts.2);
        }),
        same,
      )
  by_pass false t =
      let none : None ≡ Some name = sym (rw t refl) ∙ e in
      absurd cc

-- ---- numbers

digits_pass : (word : List ℕ) → AllDigits 10 word → list_all is_ascii_digit word ≡ true
digits_pass [] h = refl
digits_pass (c ∷ cs) h =
    let digit : is_ascii_digit c ≡ true = grind (arith, nat_tests, h.0) in
    rw (digit, digits_pass cs h.1) refl

numeral_passes : (word : List ℕ) → IsNumeral 10 word → is_numeral word ≡ true
numeral_passes word h =
    let some : nat_lt 0 (length word) ≡ true = grind (arith, nat_tests, h.0) in
    rw (some, digits_pass word h.1) refl

pub number_written : (most : ℕ) (word : List ℕ) (n : ℕ) → WritesNumber most word n → number_of most word ≡ Some n
number_written most word n (digits, value, small) =
    let fits : nat_le (digits_value 10 word) most ≡ true = grind (arith, nat_tests, value, small) in
    rw (numeral_passes word digits, fits) (ap Some (sym value))

pub writes_number : (most : ℕ) (word : List ℕ) (n : ℕ) → number_of most word ≡ Some n → WritesNumber most word n
writes_number most word n e =
    let found = some_if (is_numeral word && nat_le (digits_value 10 word) most) (digits_value 10 word) n e in
    let parts = and_parts (is_numeral word) (nat_le (digits_value 10 word) most) found.0 in
    let small : digits_value 10 word ≤ most = grind (arith, nat_tests, parts.1) in
    (numeral_parses word parts.0, sym found.1, subst (λ z. z ≤ most) found.1 small)

-- ---- announcements

window_passes : (window : ℕ) → (1 ≤ window) × (window ≤ WINDOW_MAX) → is_window window ≡ true
window_passes window h =
    let some : nat_le 1 window ≡ true = grind (arith, nat_tests, h.0) in
    let small : nat_le window WINDOW_MAX ≡ true = grind (arith, nat_tests, h.1) in
    rw (some, small) refl

window_from_pass : (window : ℕ) → is_window window ≡ true → (1 ≤ window) × (window ≤ WINDOW_MAX)
window_from_pass window e =
    let parts = and_parts (nat_le 1 window) (nat_le window WINDOW_MAX) e in
    (grind (arith, nat_tests, parts.0), grind (arith, nat_tests, parts.1))

size_fits : (code : ℕ) → code < SIZE_CODES → size_of_code code ≤ MESSAGE_MAX
size_fits zero h = lit≤ tt
size_fits (suc zero) h = lit≤ tt
size_fits (suc (suc zero)) h = lit≤ tt
size_fits (suc (suc (suc zero))) h = lit≤ tt
size_fits (suc (suc (suc (suc zero)))) h = lit≤ tt
size_fits (suc (suc (suc (suc (suc zero))))) h = lit≤ tt
size_fits (suc (suc (suc (suc (suc (suc zero)))))) h = lit≤ tt
size_fits (suc (suc (suc (suc (suc (suc (suc zero))))))) h = lit≤ tt
size_fits (suc (suc (suc (suc (suc (suc (suc (suc n)))))))) h = absurd (omega arith)

pub window_written : (window size : List ℕ) (a : Announced) → Announces window size a → window_of window ≡ Some a.window
window_written window size a h =
    rw (number_written WINDOW_MAX window a.window (h.digits.0, sym h.window_is, h.is_window.1), window_passes a.window h.is_window) refl

pub announcement_written : (window size : List ℕ) (a : Announced) → Announces window size a → announcement_of a.window size ≡ Some a
announcement_written window size a h =
    let s = number_written MESSAGE_MAX size (size_of_code a.size_code) (h.digits.1, sym h.size_is, size_fits a.size_code h.is_code) in
    rw (s, window_passes a.window h.is_window, code_of_its_size a.size_code h.is_code)
    (ap (λ (q : Bool). Some (short_as false (quiet_as q a))) (sym h.plain.0) ∙ ap (λ (s : Bool). Some (short_as s a)) (sym h.plain.1))

announcement_parts : (w s : ℕ) (a : Announced) → announcement w s ≡ Some a
    → (w ≡ a.window) × (a.size_code < SIZE_CODES) × (s ≡ size_of_code a.size_code) × (a.quiet ≡ false) × (a.short ≡ false)
announcement_parts w s a e = by_window (is_window w) e where
  by_window : (b : Bool) → (if b then code_of_size s >>= (λ code. Some (announced_as w code)) else None) ≡ Some a
      → (w ≡ a.window) × (a.size_code < SIZE_CODES) × (s ≡ size_of_code a.size_code) × (a.quiet ≡ false) × (a.short ≡ false)
  by_window true f =
      let c = bind_some (code_of_size s) (λ code. Some (announced_as w code)) a f in
      let k = size_of_its_code s c.0 c.1 in
      let found = c.2 in
      let same : announced_as w c.0 ≡ a = cc in (
        ap (λ (x : Announced). x.window) same,
        subst (λ (x : Announced). x.size_code < SIZE_CODES) same k.0,
        k.1 ∙ ap (λ (x : Announced). size_of_code x.size_code) same,
        sym (ap (λ (x : Announced). x.quiet) same),
        sym (ap (λ (x : Announced). x.short) same),
      )
  by_window false f = absurd cc

record WritesWindow (word : List ℕ) (window : ℕ) : Type 0 where
  is_window : (1 ≤ window) × (window ≤ WINDOW_MAX)
  written : WritesNumber WINDOW_MAX word window

writes_window : (word : List ℕ) (window : ℕ) → window_of word ≡ Some window → WritesWindow word window
writes_window word window e = by_number (number_of WINDOW_MAX word) refl e where
  by_test : (n : ℕ) → number_of WINDOW_MAX word ≡ Some n → (b : Bool) → is_window n ≡ b → (if b then Some n else None) ≡ Some window → WritesWindow word window
  by_test n t true u f =
      let same : n ≡ window = cc in
      subst (WritesWindow word) same (record { is_window = window_from_pass n u; written = writes_number WINDOW_MAX word n t })
  by_test n t false u f = absurd cc

  by_number : (o : Option ℕ) → number_of WINDOW_MAX word ≡ o → window_in o ≡ Some window → WritesWindow word window
  by_number None t f = absurd cc
  by_number (Some n) t f = by_test n t (is_window n) refl f

pub announces : (window size : List ℕ) (w : ℕ) (a : Announced) → window_of window ≡ Some w → announcement_of w size ≡ Some a → Announces window size a
announces window size w a e f =
    let is = writes_window window w e in
    let s = bind_some (number_of MESSAGE_MAX size) (λ s. announcement w s) a f in
    let size_is = writes_number MESSAGE_MAX size s.0 s.1 in
    let parts = announcement_parts w s.0 a s.2 in
    record {
      digits = (is.written.0, size_is.0);
      is_window = (subst (λ z. 1 ≤ z) parts.0 is.is_window.0, subst (λ z. z ≤ WINDOW_MAX) parts.0 is.is_window.1);
      is_code = parts.1;
      window_is = sym is.written.1 ∙ parts.0;
      size_is = sym size_is.1 ∙ parts.2;
      plain = (parts.3, parts.4);
    }

-- ---- limits

pub limit_written : (word : List ℕ) (n : ℕ) → WritesNumber FILE_LIMIT_MAX word n → 0 < n → limit_of_word word ≡ Some n
limit_written word n h p =
    let some : nat_le 1 n ≡ true = grind (arith, nat_tests, p) in
    rw (number_written FILE_LIMIT_MAX word n h, some) refl

pub writes_limit : (word : List ℕ) (n : ℕ) → limit_of_word word ≡ Some n → WritesNumber FILE_LIMIT_MAX word n × (0 < n)
writes_limit word n e = by_number (number_of FILE_LIMIT_MAX word) refl e where
  by_test : (k : ℕ) → number_of FILE_LIMIT_MAX word ≡ Some k → (b : Bool) → nat_le 1 k ≡ b → (if b then Some k else None) ≡ Some n
      → WritesNumber FILE_LIMIT_MAX word n × (0 < n)
  by_test k t true u f =
      let same : k ≡ n = cc in
      let some : 0 < k = grind (arith, nat_tests, u) in
      (writes_number FILE_LIMIT_MAX word n (t ∙ ap Some same), subst (λ z. 0 < z) same some)
  by_test k t false u f = absurd cc

  by_number : (o : Option ℕ) → number_of FILE_LIMIT_MAX word ≡ o → limit_within o ≡ Some n → WritesNumber FILE_LIMIT_MAX word n × (0 < n)
  by_number None t f = absurd cc
  by_number (Some k) t f = by_test k t (nat_le 1 k) refl f

-- ---- modes

octal_passes : (b : ℕ) → IsOctalDigit b → is_octal_digit b ≡ true
octal_passes b h = grind (arith, nat_tests)

octal_from_pass : (b : ℕ) → is_octal_digit b ≡ true → IsOctalDigit b
octal_from_pass b h = grind (arith, nat_tests)

mode_passes : (word : List ℕ) → IsModeWord word → is_mode_word word ≡ true
mode_passes word h =
    let digits : list_all is_octal_digit word ≡ true = list_all-from_AllPass is_octal_digit word (All-weaker IsOctalDigit (λ b. is_octal_digit b ≡ true) octal_passes word h.digits) in
    rw digits (grind (arith, nat_tests, h.some, h.short))

mode_from_pass : (word : List ℕ) → is_mode_word word ≡ true → IsModeWord word
mode_from_pass word e =
    let parts = three_tests (nat_lt 0 (length word)) (nat_le (length word) 7) (list_all is_octal_digit word) e in
    record {
      some = grind (arith, nat_tests, parts.0);
      short = grind (arith, nat_tests, parts.1);
      digits = All-weaker (λ b. is_octal_digit b ≡ true) IsOctalDigit octal_from_pass word (AllPass-from_list_all is_octal_digit word parts.2);
    }

-- four octal digits write no more than the greatest mode
short_modes : (word : List ℕ) → All IsOctalDigit word → length word ≤ MODE_DIGITS → octal_value word ≤ MODE_MAX
short_modes [] h l = lit≤ tt
short_modes (a ∷ []) h l = let p = All-head IsOctalDigit a [] h in omega (arith, p.1)
short_modes (a ∷ b ∷ []) h l =
    let p = All-head IsOctalDigit a (b ∷ []) h in
    let t = All-tail IsOctalDigit a (b ∷ []) h in
    let q = All-head IsOctalDigit b [] t in
    omega (arith, p.1, q.1)
short_modes (a ∷ b ∷ c ∷ []) h l =
    let p = All-head IsOctalDigit a (b ∷ c ∷ []) h in
    let t = All-tail IsOctalDigit a (b ∷ c ∷ []) h in
    let q = All-head IsOctalDigit b (c ∷ []) t in
    let r = All-head IsOctalDigit c [] (All-tail IsOctalDigit b (c ∷ []) t) in
    omega (arith, p.1, q.1, r.1)
short_modes (a ∷ b ∷ c ∷ d ∷ []) h l =
    let p = All-head IsOctalDigit a (b ∷ c ∷ d ∷ []) h in
    let t = All-tail IsOctalDigit a (b ∷ c ∷ d ∷ []) h in
    let q = All-head IsOctalDigit b (c ∷ d ∷ []) t in
    let u = All-tail IsOctalDigit b (c ∷ d ∷ []) t in
    let r = All-head IsOctalDigit c (d ∷ []) u in
    let s = All-head IsOctalDigit d [] (All-tail IsOctalDigit c (d ∷ []) u) in
    omega (arith, p.1, q.1, r.1, s.1)
short_modes (a ∷ b ∷ c ∷ d ∷ e ∷ more) h l = absurd (omega arith)

not_cut : (n : ℕ) → n ≤ MODE_MAX → n % (MODE_MAX + 1) ≡ n
not_cut n h = omega arith

mode_not_cut : (word : List ℕ) → IsModeWord word → length word ≤ MODE_DIGITS → mode_of word ≡ octal_value word
mode_not_cut word h l = not_cut (octal_value word) (short_modes word h.digits l)

pub mode_written : (word : List ℕ) (mode : ℕ) → WritesMode word mode → mode_of_word word ≡ Some mode
mode_written word mode (digits, short, value) =
    let fits : nat_le (length word) MODE_DIGITS ≡ true = grind (arith, nat_tests, short) in
    rw (fits, mode_passes word digits) (ap Some (mode_not_cut word digits short ∙ sym value))

pub writes_mode : (word : List ℕ) (mode : ℕ) → mode_of_word word ≡ Some mode → WritesMode word mode
writes_mode word mode e = by_length (nat_le (length word) MODE_DIGITS) refl e where
  by_word : (short : length word ≤ MODE_DIGITS) (b : Bool) → is_mode_word word ≡ b → result_ok (if b then Ok (mode_of word) else Err bad_text.Mode) ≡ Some mode → WritesMode word mode
  by_word short true t f =
      let digits = mode_from_pass word t in
      let same : mode_of word ≡ mode = cc in
      (digits, short, sym same ∙ mode_not_cut word digits short)
  by_word short false t f = absurd cc

  by_length : (b : Bool) → nat_le (length word) MODE_DIGITS ≡ b → (if b then result_ok (mode_read word) else None) ≡ Some mode → WritesMode word mode
  by_length true t f = by_word (grind (arith, nat_tests)) (is_mode_word word) refl f
  by_length false t f = absurd cc

-- ---- bytes

pub bytes_written : (word bytes : List ℕ) → WritesBytes word bytes → hex_bytes word ≡ Some bytes
bytes_written word bytes dash = refl
bytes_written word bytes (pairs e) = by_dash (bytes_eq word (codes "-")) refl where
  by_dash : (b : Bool) → bytes_eq word (codes "-") ≡ b → hex_bytes word ≡ Some bytes
  by_dash true t =
      let odd : ◌≡◌ {A = Result (List ℕ) FromHexError} (Ok bytes) (Err OddLength) = sym e ∙ ap decode_of (same_bytes word (codes "-") t) in
      absurd cc
  by_dash false t = rw (t, e) refl

pub writes_bytes : (word bytes : List ℕ) → hex_bytes word ≡ Some bytes → WritesBytes word bytes
writes_bytes word bytes e = by_dash (bytes_eq word (codes "-")) refl e where
  of_result : (r : Result (List ℕ) FromHexError) → decode_of word ≡ r → result_ok r ≡ Some bytes → WritesBytes word bytes
  of_result (Ok found) t f = let same : found ≡ bytes = cc in pairs (t ∙ ap Ok same)
  of_result (Err fault) t f = absurd cc

  by_dash : (b : Bool) → bytes_eq word (codes "-") ≡ b → (if b then Some [] else result_ok (decode_of word)) ≡ Some bytes → WritesBytes word bytes
  by_dash true t f =
      let empty : [] ≡ bytes = cc in
      subst (λ z. WritesBytes word z) empty (subst (λ w. WritesBytes w []) (sym (same_bytes word (codes "-") t)) dash)
  by_dash false t f = of_result (decode_of word) refl f

pub byte_written : (word : List ℕ) (byte : ℕ) → decode_of word ≡ Ok (byte ∷ []) → byte_of word ≡ Some byte
byte_written word byte e =
    let two : length word ≡ 2 * 1 = (decode_of-ok word (byte ∷ []) e).2 in
    ap first_byte (decode_sized-twice word 1 two ∙ e)

one_byte : (bytes : List ℕ) (byte : ℕ) → length bytes ≡ 1 → slice_index bytes 0 ≡ byte → bytes ≡ byte ∷ []
one_byte [] byte l e = absurd (omega arith)
one_byte (b ∷ []) byte l e = ap (λ z. z ∷ []) e
one_byte (b ∷ c ∷ cs) byte l e = absurd (omega arith)

pub writes_byte : (word : List ℕ) (byte : ℕ) → byte_of word ≡ Some byte → decode_of word ≡ Ok (byte ∷ [])
writes_byte word byte e = of_result (decode_sized word 1) refl e where
  of_result : (r : Result (List ℕ) FromHexError) → decode_sized word 1 ≡ r → first_byte r ≡ Some byte → decode_of word ≡ Ok (byte ∷ [])
  of_result (Ok bytes) t f =
      let two = decode_sized-ok word 1 bytes t in
      let whole : decode_of word ≡ Ok bytes = sym (decode_sized-twice word 1 two) ∙ t in
      let long = (decode_of-ok word bytes whole).2 in
      let first : slice_index bytes 0 ≡ byte = cc in
      whole ∙ ap Ok (one_byte bytes byte (omega arith) first)
  of_result (Err fault) t f = absurd cc
