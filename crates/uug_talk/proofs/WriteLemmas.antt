-- What is written is read back.
use Rattle.std.proofs.Common.{◌≡◌, ◌≢◌, ℕ, ◌+◌, ◌*◌, ◌≤◌, true, false, List, [], ◌∷◌, length, codes, Contains, Some, None, refl, sym, subst, arith}
use Rattle.std.proofs.lemmas.Bool.{false≢true}
use Rattle.std.proofs.lemmas.Bool.Decides.{nat_tests}
use Rattle.std.proofs.lemmas.List.{length-append}
use Rattle.std.proofs.lemmas.List.Elements.{All-from_recursion, All-nil, All-cons}
use Rattle.std.specs.List.{AllByRecursion}
use Rattle.uug_talk.specs.declared.answer.Answer.{Answer}
use Rattle.uug_talk.specs.declared.answer.Answer.TheVariants.{SendYes, SendNever, SendLater, GiveYes, GiveNever, GiveLater, DoneYes, DoneYesMaster, DoneNever, DoneLater, HangYes, HangNo}
use Rattle.uug_talk.specs.declared.order.Order.{Order}
use Rattle.uug_talk.specs.declared.order.Order.TheVariants.{Send, Request, HangUp}
use Rattle.uug_talk.specs.declared.mode.TheConstants.{MODE_MAX}
use Rattle.uug_talk.specs.declared.name.TheConstants.{NAME_MAX}
use Rattle.uug_talk.specs.declared.words.TheConstants.{COMMAND_MAX}
use Rattle.uug_talk.specs.Answer.{BeginsWith, SpellsAnswer, ReadsAnswer, IsWritten, answer_words, answer_text}
use Rattle.uug_talk.specs.Chunks.{IsCommandText}
use Rattle.uug_talk.specs.Lenient.{is_refusable, refusal_text}
use Rattle.uug_talk.specs.Mode.{IsOctalDigit, IsModeWord, mode_of, mode_digits}
use Rattle.uug_talk.specs.Order.{SpellsOrder, ReadsOrder, HasMode, HasNames, order_words, order_text}
use Rattle.uug_talk.specs.Words.{is_space, words}
use Rattle.uug_talk.proofs.OrderLemmas.{any_from_contains}
use Rattle.uug_talk.proofs.JoinedLemmas.{IsWord, IsWord-name, words-joined, HasNoZero, no_zero-joined, no_zero-name}

-- A mode.

IsModeWord-digits : (mode : ℕ) → IsModeWord (mode_digits mode)
IsModeWord-digits mode = record {
  some = omega arith;
  short = omega arith;
  digits = All-from_recursion IsOctalDigit (mode_digits mode)
      ((omega arith, omega arith), ((omega arith, omega arith), ((omega arith, omega arith), ((omega arith, omega arith), tt))));
}

mode_of-digits : (mode : ℕ) → mode ≤ MODE_MAX → mode ≡ mode_of (mode_digits mode)
mode_of-digits mode h = omega arith

IsWord-digits : (mode : ℕ) → IsWord (mode_digits mode)
IsWord-digits mode = record {
  some = omega arith;
  solid = All-from_recursion (λ b. is_space b ≡ false) (mode_digits mode)
      (grind (arith, nat_tests), (grind (arith, nat_tests), (grind (arith, nat_tests), (grind (arith, nat_tests), tt))));
}

-- Short words that are written out.

IsWord-short : (b : ℕ) (bs : List ℕ) → AllByRecursion (λ b. is_space b ≡ false) (b ∷ bs) → IsWord (b ∷ bs)
IsWord-short b bs h = record { some = omega arith; solid = All-from_recursion (λ b. is_space b ≡ false) (b ∷ bs) h }

-- Answers.

reads_written : (answer : Answer) → IsWritten answer → words (answer_text answer) ≡ answer_words answer
reads_written SendYes h = refl
reads_written SendNever h = refl
reads_written SendLater h = refl
reads_written (GiveYes mode) h = words-joined _ (IsWord-short 82 (89 ∷ []) (refl, (refl, tt)), (IsWord-digits mode, tt))
reads_written GiveNever h = refl
reads_written GiveLater h = refl
reads_written DoneYes h = refl
reads_written DoneYesMaster h = absurd h
reads_written DoneNever h = refl
reads_written DoneLater h = refl
reads_written HangYes h = refl
reads_written HangNo h = refl

other_third : (x y z w : ℕ) → z ≢ w → ¬ BeginsWith ((x ∷ y ∷ w ∷ []) ∷ []) (x ∷ y ∷ z ∷ [])
other_third x y z w n (behind, more, e) = n cc

no_third : (x y z : ℕ) → ¬ BeginsWith ((x ∷ y ∷ []) ∷ []) (x ∷ y ∷ z ∷ [])
no_third x y z (behind, more, e) = absurd cc

spells_written : (answer : Answer) → IsWritten answer → SpellsAnswer (answer_words answer) answer
spells_written SendYes h = ([], [], refl)
spells_written SendNever h = ([], [], refl)
spells_written SendLater h = ((52 ∷ [], [], refl), other_third 83 78 50 52 (omega arith))
spells_written (GiveYes mode) h = (([], mode_digits mode ∷ [], refl), (IsModeWord-digits mode, mode_of-digits mode h))
spells_written GiveNever h = ([], [], refl)
spells_written GiveLater h = ((54 ∷ [], [], refl), other_third 82 78 50 54 (omega arith))
spells_written DoneYes h = (([], [], refl), no_third 67 89 77)
spells_written DoneYesMaster h = absurd h
spells_written DoneNever h = ([], [], refl)
spells_written DoneLater h = ((52 ∷ [], [], refl), other_third 67 78 53 52 (omega arith))
spells_written HangYes h = ([], [], refl)
spells_written HangNo h = ([], [], refl)

short_written : (answer : Answer) → IsWritten answer → length (answer_text answer) ≤ COMMAND_MAX
short_written SendYes h = omega arith
short_written SendNever h = omega arith
short_written SendLater h = omega arith
short_written (GiveYes mode) h = omega arith
short_written GiveNever h = omega arith
short_written GiveLater h = omega arith
short_written DoneYes h = omega arith
short_written DoneYesMaster h = absurd h
short_written DoneNever h = omega arith
short_written DoneLater h = omega arith
short_written HangYes h = omega arith
short_written HangNo h = omega arith

pub ReadsAnswer-written : (text : List ℕ) (answer : Answer) → IsWritten answer → text ≡ answer_text answer → ReadsAnswer text answer
ReadsAnswer-written text answer h e = subst (λ t. ReadsAnswer t answer) (sym e) (record {
  within = short_written answer h;
  spelled = subst (λ ws. SpellsAnswer ws answer) (sym (reads_written answer h)) (spells_written answer h);
})

-- Commands.

order_words_are_words : (order : Order) → HasNames order → AllByRecursion IsWord (order_words order)
order_words_are_words (Send source target user None mode) h = (
  IsWord-short 83 [] (refl, tt),
  (
    IsWord-name source h.0.0,
    (
      IsWord-name target h.0.1,
      (
        IsWord-name user h.0.2,
        (IsWord-short 45 [] (refl, tt), (IsWord-short 68 (46 ∷ 48 ∷ []) (refl, (refl, (refl, tt))), (IsWord-digits mode, tt))),
      ),
    ),
  ),
)
order_words_are_words (Send source target user (Some temp) mode) h = (
  IsWord-short 83 [] (refl, tt),
  (
    IsWord-name source h.0.0,
    (
      IsWord-name target h.0.1,
      (
        IsWord-name user h.0.2,
        (IsWord-short 45 (67 ∷ []) (refl, (refl, tt)), (IsWord-name temp h.1, (IsWord-digits mode, tt))),
      ),
    ),
  ),
)
order_words_are_words (Request source target user) h =
    (IsWord-short 82 [] (refl, tt), (IsWord-name source h.0, (IsWord-name target h.1, (IsWord-name user h.2, (IsWord-short 45 [] (refl, tt), tt)))))
order_words_are_words HangUp h = (IsWord-short 72 [] (refl, tt), tt)

no_copy : ¬ Contains (codes "-") 67
no_copy h = false≢true (any_from_contains 67 (45 ∷ []) h)

spells_order : (order : Order) → HasNames order → HasMode order → SpellsOrder (order_words order) order
spells_order (Send source target user None mode) h m = record {
  options = codes "-";
  copy = codes "D.0";
  digits = mode_digits mode;
  more = [];
  spelled = refl;
  dash = ([], refl);
  names = h.0;
  temp_name = no_copy;
  octal = (IsModeWord-digits mode, mode_of-digits mode m);
}
spells_order (Send source target user (Some temp) mode) h m = record {
  options = codes "-C";
  copy = temp;
  digits = mode_digits mode;
  more = [];
  spelled = refl;
  dash = (67 ∷ [], refl);
  names = h.0;
  temp_name = ((1, omega arith, refl), h.1, refl);
  octal = (IsModeWord-digits mode, mode_of-digits mode m);
}
spells_order (Request source target user) h m = record {
  options = codes "-";
  more = [];
  spelled = refl;
  dash = ([], refl);
  names = h;
}
spells_order HangUp h m = ([], refl)

-- the longest command has its letter, four names, an option with its dash, a mode and six spaces
pub short_order : (order : Order) → HasNames order → length (order_text order) ≤ 4 * NAME_MAX + 13
short_order (Send source target user None mode) h =
    simp length-append (omega (arith, h.0.0.short, h.0.1.short, h.0.2.short))
short_order (Send source target user (Some temp) mode) h =
    simp length-append (omega (arith, h.0.0.short, h.0.1.short, h.0.2.short, h.1.short))
short_order (Request source target user) h =
    simp length-append (omega (arith, h.0.short, h.1.short, h.2.short))
short_order HangUp h = omega arith

pub ReadsOrder-written : (text : List ℕ) (order : Order) → HasNames order → HasMode order → text ≡ order_text order → ReadsOrder text order
ReadsOrder-written text order h m e = subst (λ t. ReadsOrder t order) (sym e) (record {
  within = omega (arith, short_order order h);
  spelled = subst (λ ws. SpellsOrder ws order) (sym (words-joined (order_words order) (order_words_are_words order h))) (spells_order order h m);
})

-- What is written may be cut into messages.

no_zero-digits : (mode : ℕ) → HasNoZero (mode_digits mode)
no_zero-digits mode = All-from_recursion (λ b. b ≢ 0) (mode_digits mode)
    (λ e. omega (arith, e), (λ e. omega (arith, e), (λ e. omega (arith, e), (λ e. omega (arith, e), tt))))

no_zero-one : (b : ℕ) → b ≢ 0 → HasNoZero (b ∷ [])
no_zero-one b n = All-cons (λ b. b ≢ 0) b [] n (All-nil (λ b. b ≢ 0))

no_zero-two : (a b : ℕ) → a ≢ 0 → b ≢ 0 → HasNoZero (a ∷ b ∷ [])
no_zero-two a b n m = All-cons (λ b. b ≢ 0) a (b ∷ []) n (no_zero-one b m)

no_zero-three : (a b c : ℕ) → a ≢ 0 → b ≢ 0 → c ≢ 0 → HasNoZero (a ∷ b ∷ c ∷ [])
no_zero-three a b c n m k = All-cons (λ b. b ≢ 0) a (b ∷ c ∷ []) n (no_zero-two b c m k)

answer_no_zero : (answer : Answer) → IsWritten answer → HasNoZero (answer_text answer)
answer_no_zero SendYes h = no_zero-two 83 89 (omega arith) (omega arith)
answer_no_zero SendNever h = no_zero-three 83 78 50 (omega arith) (omega arith) (omega arith)
answer_no_zero SendLater h = no_zero-three 83 78 52 (omega arith) (omega arith) (omega arith)
answer_no_zero (GiveYes mode) h = no_zero-joined (answer_words (GiveYes mode)) (no_zero-two 82 89 (omega arith) (omega arith), (no_zero-digits mode, tt))
answer_no_zero GiveNever h = no_zero-three 82 78 50 (omega arith) (omega arith) (omega arith)
answer_no_zero GiveLater h = no_zero-three 82 78 54 (omega arith) (omega arith) (omega arith)
answer_no_zero DoneYes h = no_zero-two 67 89 (omega arith) (omega arith)
answer_no_zero DoneYesMaster h = absurd h
answer_no_zero DoneNever h = no_zero-three 67 78 53 (omega arith) (omega arith) (omega arith)
answer_no_zero DoneLater h = no_zero-three 67 78 52 (omega arith) (omega arith) (omega arith)
answer_no_zero HangYes h = no_zero-two 72 89 (omega arith) (omega arith)
answer_no_zero HangNo h = no_zero-two 72 78 (omega arith) (omega arith)

order_no_zero : (order : Order) → HasNames order → HasNoZero (order_text order)
order_no_zero (Send source target user None mode) h = no_zero-joined (order_words (Send source target user None mode)) (
  no_zero-one 83 (omega arith),
  (
    no_zero-name source h.0.0,
    (
      no_zero-name target h.0.1,
      (
        no_zero-name user h.0.2,
        (no_zero-one 45 (omega arith), (no_zero-three 68 46 48 (omega arith) (omega arith) (omega arith), (no_zero-digits mode, tt))),
      ),
    ),
  ),
)
order_no_zero (Send source target user (Some temp) mode) h = no_zero-joined (order_words (Send source target user (Some temp) mode)) (
  no_zero-one 83 (omega arith),
  (
    no_zero-name source h.0.0,
    (
      no_zero-name target h.0.1,
      (
        no_zero-name user h.0.2,
        (no_zero-two 45 67 (omega arith) (omega arith), (no_zero-name temp h.1, (no_zero-digits mode, tt))),
      ),
    ),
  ),
)
order_no_zero (Request source target user) h = no_zero-joined (order_words (Request source target user))
    (no_zero-one 82 (omega arith), (no_zero-name source h.0, (no_zero-name target h.1, (no_zero-name user h.2, (no_zero-one 45 (omega arith), tt)))))
order_no_zero HangUp h = no_zero-one 72 (omega arith)

pub IsCommandText-answer : (text : List ℕ) (answer : Answer) → IsWritten answer → text ≡ answer_text answer → IsCommandText text
IsCommandText-answer text answer h e = subst IsCommandText (sym e) (record { short = short_written answer h; no_zero = answer_no_zero answer h })

pub IsCommandText-refusal : (text : List ℕ) (letter : ℕ) → is_refusable letter ≡ true → text ≡ refusal_text letter → IsCommandText text
IsCommandText-refusal text letter h e = subst IsCommandText (sym e) (record {
  short = omega arith;
  no_zero = no_zero-three letter 78 50 (let some : 65 ≤ letter = grind (arith, nat_tests) in omega (arith, some)) (omega arith) (omega arith);
})

pub IsCommandText-order : (text : List ℕ) (order : Order) → HasNames order → text ≡ order_text order → IsCommandText text
IsCommandText-order text order h e = subst IsCommandText (sym e) (record { short = omega (arith, short_order order h); no_zero = order_no_zero order h })
