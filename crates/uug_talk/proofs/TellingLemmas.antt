-- A text that tells of its file is read as it was, and tells that.
use Rattle.std.proofs.Common.{◌≡◌, ◌≢◌, ℕ, ◌<◌, ◌≤◌, ◌^◌, true, false, List, [], ◌∷◌, ◌++◌, length, codes, All, Some, None, refl, sym, ap, ap₂, subst, ◌∙◌, append_assoc, length-append, arith}
use Rattle.std.proofs.lemmas.Bool.Decides.{nat_tests}
use Rattle.std.proofs.lemmas.List.Elements.{All-append, All-cons, All-from_recursion, All-weaker}
use Rattle.std.specs.Int.{to_be_bytes, w32}
use Rattle.std.specs.List.{AllByRecursion}
use Rattle.std.specs.Result.{result_ok}
use Rattle.hex.proofs.HexLemmas.{length-encode_with}
use Rattle.hex.specs.Hex.{IsBytes, encode_lower, is_hex_digit, lower_digits}
use Rattle.uug_talk.proofs.DigitLemmas.{digit_no_space, digit_not_zero, encoded_back, encoded_digits, size_back, size_bytes}
use Rattle.uug_talk.proofs.HashLemmas.{sha256_bytes, sha256_length}
use Rattle.uug_talk.specs.Digests.{IsSend, both_told, digest_in, digest_of, digest_text, digest_words, give_telling_text, order_telling_text, told_by_answer, told_by_answer_words, told_by_order, told_by_order_words}
use Rattle.uug_talk.specs.declared.file_digest.FileDigest.{FileDigest}
use Rattle.uug_talk.proofs.JoinedLemmas.{HasNoZero, IsWord, IsWord-name, no_zero-joined, words-joined}
use Rattle.uug_talk.proofs.WriteLemmas.{IsCommandText-answer, IsCommandText-order, ReadsAnswer-written, ReadsOrder-written, short_order}
use Rattle.uug_talk.specs.Answer.{ReadsAnswer, SpellsAnswer, answer_text, answer_words}
use Rattle.uug_talk.specs.Chunks.{IsCommandText}
use Rattle.uug_talk.specs.Mode.{mode_digits}
use Rattle.uug_talk.specs.Order.{HasMode, HasNames, ReadsOrder, SpellsOrder, order_text, order_words}
use Rattle.uug_talk.specs.Words.{is_space, joined, words}
use Rattle.uug_talk.specs.declared.answer.Answer.TheVariants.{GiveYes}
use Rattle.uug_talk.specs.declared.mode.TheConstants.{MODE_MAX}
use Rattle.uug_talk.specs.declared.order.Order.{Order}
use Rattle.uug_talk.specs.declared.order.Order.TheVariants.{Send, Request, HangUp}

-- what the two numbers of a digest are
pub record IsSized (told : FileDigest) : Type 0 where
  pub size : told.size < 2 ^ 32
  pub bytes : IsBytes told.hash
  pub length : length told.hash ≡ 32

pub digest_is_sized : (bytes : List ℕ) → length bytes < 2 ^ 32 → IsSized (digest_of bytes)
digest_is_sized bytes h = record { size = h; bytes = sha256_bytes bytes; length = sha256_length bytes }

-- ---- joined words

pub joined_more : (w : List ℕ) (ws : List (List ℕ)) (v : List ℕ) (vs : List (List ℕ))
    → joined ((w ∷ ws) ++ v ∷ vs) ≡ joined (w ∷ ws) ++ 32 ∷ joined (v ∷ vs)
joined_more w [] v vs = refl
joined_more w (u ∷ us) v vs = ap (λ r. w ++ 32 ∷ r) (joined_more u us v vs) ∙ sym (append_assoc w (32 ∷ joined (u ∷ us)) (32 ∷ joined (v ∷ vs)))

-- the pieces in which a text is written
pub pieces : (text size hash : List ℕ) → (((text ++ codes " \"\" 0x") ++ size) ++ codes " sha256:") ++ hash
    ≡ text ++ 32 ∷ joined (codes "\"\"" ∷ (codes "0x" ++ size) ∷ (codes "sha256:" ++ hash) ∷ [])
pieces text size hash = simp append_assoc

both_are_words : (ws vs : List (List ℕ)) → AllByRecursion IsWord ws → AllByRecursion IsWord vs → AllByRecursion IsWord (ws ++ vs)
both_are_words [] vs h k = k
both_are_words (w ∷ ws) vs h k = (h.0, both_are_words ws vs h.1 k)

-- ---- the words of a digest

pub solid_digits : (bytes : List ℕ) → IsBytes bytes → All (λ b. is_space b ≡ false) (encode_lower bytes)
solid_digits bytes h =
    All-weaker (λ c. is_hex_digit c ≡ true) (λ c. is_space c ≡ false) solid (encode_lower bytes) (encoded_digits bytes h) where
      solid : (c : ℕ) → is_hex_digit c ≡ true → is_space c ≡ false
      solid c d = let no = digit_no_space c d in grind (arith, nat_tests, no)

pub short_word : (b : ℕ) (bs : List ℕ) → AllByRecursion (λ b. is_space b ≡ false) (b ∷ bs) → IsWord (b ∷ bs)
short_word b bs h = record { some = omega arith; solid = All-from_recursion (λ b. is_space b ≡ false) (b ∷ bs) h }

-- a word behind a front
pub front_word : (b : ℕ) (bs digits : List ℕ) → AllByRecursion (λ b. is_space b ≡ false) (b ∷ bs)
    → All (λ b. is_space b ≡ false) digits → IsWord ((b ∷ bs) ++ digits)
front_word b bs digits h k = record {
  some = omega arith;
  solid = All-append (λ b. is_space b ≡ false) (b ∷ bs) digits (All-from_recursion (λ b. is_space b ≡ false) (b ∷ bs) h) k;
}

pub digest_words_are_words : (told : FileDigest) → IsSized told → AllByRecursion IsWord (digest_words told)
digest_words_are_words told h = (
  short_word 34 (34 ∷ []) (refl, (refl, tt)),
  (
    front_word 48 (120 ∷ []) _ (refl, (refl, tt)) (solid_digits (to_be_bytes w32 told.size) (size_bytes told.size)),
    (
      front_word 115 (104 ∷ 97 ∷ 50 ∷ 53 ∷ 54 ∷ 58 ∷ []) _ (refl, (refl, (refl, (refl, (refl, (refl, (refl, tt))))))) (solid_digits told.hash h.bytes),
      tt,
    ),
  ),
)

pub no_zero_digits : (bytes : List ℕ) → IsBytes bytes → HasNoZero (encode_lower bytes)
no_zero_digits bytes h =
    All-weaker (λ c. is_hex_digit c ≡ true) (λ c. c ≢ 0) digit_not_zero (encode_lower bytes) (encoded_digits bytes h)

pub front_no_zero : (front digits : List ℕ) → AllByRecursion (λ b. b ≢ 0) front → HasNoZero digits → HasNoZero (front ++ digits)
front_no_zero front digits h k = All-append (λ b. b ≢ 0) front digits (All-from_recursion (λ b. b ≢ 0) front h) k

pub some : (b : ℕ) → 0 < b → b ≢ 0
some b h e = absurd (omega (arith, h, e))

digest_no_zero : (told : FileDigest) → IsSized told → HasNoZero (digest_text told)
digest_no_zero told h = no_zero-joined (digest_words told) (
  All-from_recursion (λ b. b ≢ 0) (codes "\"\"") (some 34 (omega arith), (some 34 (omega arith), tt)),
  (
    front_no_zero (codes "0x") _ (some 48 (omega arith), (some 120 (omega arith), tt)) (no_zero_digits (to_be_bytes w32 told.size) (size_bytes told.size)),
    (
      front_no_zero (codes "sha256:") _
          (some 115 (omega arith), (some 104 (omega arith), (some 97 (omega arith), (some 50 (omega arith), (some 53 (omega arith), (some 54 (omega arith), (some 58 (omega arith), tt)))))))
          (no_zero_digits told.hash h.bytes),
      tt,
    ),
  ),
)

pub no_zero_told : (text : List ℕ) (told : FileDigest) → HasNoZero text → IsSized told → HasNoZero (text ++ 32 ∷ digest_text told)
no_zero_told text told h k =
    All-append (λ b. b ≢ 0) text (32 ∷ digest_text told) h
    (All-cons (λ b. b ≢ 0) 32 (digest_text told) (some 32 (omega arith)) (digest_no_zero told k))

digest_text_length : (told : FileDigest) → length told.hash ≡ 32 → length (digest_text told) ≡ 85
digest_text_length told h =
    let size = length-encode_with lower_digits (to_be_bytes w32 told.size) in
    let hash = length-encode_with lower_digits told.hash in
    simp length-append (omega (arith, size, hash, h))

-- a short text, and behind it what is told, may be cut into messages
told_command : (text : List ℕ) (told : FileDigest) → length text ≤ 2048 → HasNoZero text → IsSized told
    → IsCommandText (text ++ 32 ∷ digest_text told)
told_command text told short no_zero k = record {
  short = omega (arith, short, length-append text (32 ∷ digest_text told), digest_text_length told k.length);
  no_zero = no_zero_told text told no_zero k;
}

pub digest_back : (told : FileDigest) → IsSized told → digest_in (digest_words told) ≡ Some told
digest_back told h = ap₂ both_told (size_back told.size h.size) (ap result_ok (encoded_back told.hash 32 h.bytes h.length))

-- ---- commands

names_of : (ws : List (List ℕ)) (order : Order) → SpellsOrder ws order → HasNames order
names_of ws (Send source target user None mode) s = (s.names, tt)
names_of ws (Send source target user (Some temp) mode) s = (s.names, s.temp_name.1)
names_of ws (Request source target user) s = s.names
names_of ws HangUp s = tt

mode_word : (mode : ℕ) → IsWord (mode_digits mode)
mode_word mode = record {
  some = omega arith;
  solid = All-from_recursion (λ b. is_space b ≡ false) (mode_digits mode)
      (grind (arith, nat_tests), (grind (arith, nat_tests), (grind (arith, nat_tests), (grind (arith, nat_tests), tt))));
}

order_words_are_words : (order : Order) → HasNames order → AllByRecursion IsWord (order_words order)
order_words_are_words (Send source target user None mode) h = (
  short_word 83 [] (refl, tt),
  (
    IsWord-name source h.0.0,
    (
      IsWord-name target h.0.1,
      (
        IsWord-name user h.0.2,
        (short_word 45 [] (refl, tt), (short_word 68 (46 ∷ 48 ∷ []) (refl, (refl, (refl, tt))), (mode_word mode, tt))),
      ),
    ),
  ),
)
order_words_are_words (Send source target user (Some temp) mode) h = (
  short_word 83 [] (refl, tt),
  (
    IsWord-name source h.0.0,
    (
      IsWord-name target h.0.1,
      (
        IsWord-name user h.0.2,
        (short_word 45 (67 ∷ []) (refl, (refl, tt)), (IsWord-name temp h.1, (mode_word mode, tt))),
      ),
    ),
  ),
)
order_words_are_words (Request source target user) h =
    (short_word 82 [] (refl, tt), (IsWord-name source h.0, (IsWord-name target h.1, (IsWord-name user h.2, (short_word 45 [] (refl, tt), tt)))))
order_words_are_words HangUp h = (short_word 72 [] (refl, tt), tt)

-- the size and the digest
abbrev numbers : FileDigest → List (List ℕ)
numbers told = (codes "0x" ++ encode_lower (to_be_bytes w32 told.size)) ∷ (codes "sha256:" ++ encode_lower told.hash) ∷ []

pub order_joined : (order : Order) (told : FileDigest) → order_text order ++ 32 ∷ digest_text told ≡ order_telling_text order told
order_joined (Send source target user None mode) told =
    sym (joined_more (codes "S") (source ∷ target ∷ user ∷ codes "-" ∷ codes "D.0" ∷ mode_digits mode ∷ []) (codes "\"\"") (numbers told))
order_joined (Send source target user (Some temp) mode) told =
    sym (joined_more (codes "S") (source ∷ target ∷ user ∷ codes "-C" ∷ temp ∷ mode_digits mode ∷ []) (codes "\"\"") (numbers told))
order_joined (Request source target user) told =
    sym (joined_more (codes "R") (source ∷ target ∷ user ∷ codes "-" ∷ []) (codes "\"\"") (numbers told))
order_joined HangUp told = sym (joined_more (codes "H") [] (codes "\"\"") (numbers told))

pub order_read : (order : Order) (told : FileDigest) → HasNames order → IsSized told
    → words (order_telling_text order told) ≡ order_words order ++ digest_words told
order_read order told h k =
    words-joined (order_words order ++ digest_words told)
    (both_are_words (order_words order) (digest_words told) (order_words_are_words order h) (digest_words_are_words told k))

with_more : (ws : List (List ℕ)) (order : Order) (more : List (List ℕ)) → SpellsOrder ws order → SpellsOrder (ws ++ more) order
with_more ws (Send source target user temp mode) more s = record {
  options = s.options;
  copy = s.copy;
  digits = s.digits;
  more = s.more ++ more;
  spelled = ap (λ z. z ++ more) s.spelled;
  dash = s.dash;
  names = s.names;
  temp_name = s.temp_name;
  octal = s.octal;
}
with_more ws (Request source target user) more s = record {
  options = s.options;
  more = s.more ++ more;
  spelled = ap (λ z. z ++ more) s.spelled;
  dash = s.dash;
  names = s.names;
}
with_more ws HangUp more s = (s.0 ++ more, ap (λ z. z ++ more) s.1)

pub order_spelled : (order : Order) (told : FileDigest) → SpellsOrder (words (order_text order)) order → IsSized told
    → SpellsOrder (words (order_telling_text order told)) order
order_spelled order told s k =
    let h = names_of _ order s in
    let here = words-joined (order_words order) (order_words_are_words order h) in
    subst (λ ws. SpellsOrder ws order) (ap (λ z. z ++ digest_words told) here ∙ sym (order_read order told h k))
    (with_more _ order (digest_words told) s)

told_behind : (order : Order) (told : FileDigest) → IsSend order
    → told_by_order_words (order_words order ++ digest_words told) ≡ digest_in (digest_words told)
told_behind (Send source target user None mode) told h = refl
told_behind (Send source target user (Some temp) mode) told h = refl
told_behind (Request source target user) told h = absurd h
told_behind HangUp told h = absurd h

pub order_tells : (order : Order) (told : FileDigest) → SpellsOrder (words (order_text order)) order → IsSized told → IsSend order
    → told_by_order (order_telling_text order told) ≡ Some told
order_tells order told s k h =
    ap told_by_order_words (order_read order told (names_of _ order s) k) ∙ told_behind order told h ∙ digest_back told k

pub order_command : (order : Order) (told : FileDigest) → HasNames order → IsSized told → IsCommandText (order_telling_text order told)
order_command order told h k =
    subst IsCommandText (order_joined order told)
    (told_command (order_text order) told (omega (arith, short_order order h)) (IsCommandText-order (order_text order) order h refl).no_zero k)

pub order_reads : (order : Order) (told : FileDigest) → HasNames order → HasMode order → IsSized told
    → ReadsOrder (order_telling_text order told) order
order_reads order told h m k = record {
  within = (order_command order told h k).short;
  spelled = order_spelled order told (ReadsOrder-written (order_text order) order h m refl).spelled k;
}

pub order_tells_it : (order : Order) (told : FileDigest) → HasNames order → HasMode order → IsSized told → IsSend order
    → told_by_order (order_telling_text order told) ≡ Some told
order_tells_it order told h m k send = order_tells order told (ReadsOrder-written (order_text order) order h m refl).spelled k send

-- with no words behind it
none_behind : (order : Order) → told_by_order_words (order_words order) ≡ None
none_behind (Send source target user None mode) = refl
none_behind (Send source target user (Some temp) mode) = refl
none_behind (Request source target user) = refl
none_behind HangUp = refl

pub order_tells_none : (order : Order) → HasNames order → told_by_order (order_text order) ≡ None
order_tells_none order h =
    ap told_by_order_words (words-joined (order_words order) (order_words_are_words order h)) ∙ none_behind order

-- ---- the answer RY

give_words_are_words : (mode : ℕ) → AllByRecursion IsWord (answer_words (GiveYes mode))
give_words_are_words mode = (short_word 82 (89 ∷ []) (refl, (refl, tt)), (mode_word mode, tt))

pub give_joined : (mode : ℕ) (told : FileDigest) → answer_text (GiveYes mode) ++ 32 ∷ digest_text told ≡ give_telling_text mode told
give_joined mode told = sym (joined_more (codes "RY") (mode_digits mode ∷ []) (codes "\"\"") (numbers told))

give_read : (mode : ℕ) (told : FileDigest) → IsSized told
    → words (give_telling_text mode told) ≡ answer_words (GiveYes mode) ++ digest_words told
give_read mode told k =
    words-joined (answer_words (GiveYes mode) ++ digest_words told)
    (both_are_words (answer_words (GiveYes mode)) (digest_words told) (give_words_are_words mode) (digest_words_are_words told k))

give_spells : (mode : ℕ) (more : List (List ℕ)) → SpellsAnswer (answer_words (GiveYes mode)) (GiveYes mode)
    → SpellsAnswer (answer_words (GiveYes mode) ++ more) (GiveYes mode)
give_spells mode more s = (([], mode_digits mode ∷ more, refl), s.1)

pub give_spelled : (mode : ℕ) (told : FileDigest) → SpellsAnswer (words (answer_text (GiveYes mode))) (GiveYes mode) → IsSized told
    → SpellsAnswer (words (give_telling_text mode told)) (GiveYes mode)
give_spelled mode told s k =
    let here = words-joined (answer_words (GiveYes mode)) (give_words_are_words mode) in
    subst (λ ws. SpellsAnswer ws (GiveYes mode)) (sym (give_read mode told k))
    (give_spells mode (digest_words told) (subst (λ ws. SpellsAnswer ws (GiveYes mode)) here s))

pub give_tells : (mode : ℕ) (told : FileDigest) → IsSized told → told_by_answer (give_telling_text mode told) ≡ Some told
give_tells mode told k = ap told_by_answer_words (give_read mode told k) ∙ digest_back told k

pub give_command : (mode : ℕ) (told : FileDigest) → mode ≤ MODE_MAX → IsSized told → IsCommandText (give_telling_text mode told)
give_command mode told m k =
    let plain = IsCommandText-answer (answer_text (GiveYes mode)) (GiveYes mode) m refl in
    subst IsCommandText (give_joined mode told)
    (told_command (answer_text (GiveYes mode)) told (omega arith) plain.no_zero k)

pub give_reads : (mode : ℕ) (told : FileDigest) → mode ≤ MODE_MAX → IsSized told → ReadsAnswer (give_telling_text mode told) (GiveYes mode)
give_reads mode told m k = record {
  within = (give_command mode told m k).short;
  spelled = give_spelled mode told (ReadsAnswer-written (answer_text (GiveYes mode)) (GiveYes mode) m refl).spelled k;
}

pub give_tells_none : (mode : ℕ) → told_by_answer (answer_text (GiveYes mode)) ≡ None
give_tells_none mode = ap told_by_answer_words (words-joined (answer_words (GiveYes mode)) (give_words_are_words mode))
