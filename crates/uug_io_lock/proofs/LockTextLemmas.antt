-- The text of a lock file is read as the process that it names.
use Rattle.std.proofs.Common.{◌≡◌, ℕ, zero, suc, ◌-◌, ◌<◌, ◌^◌, Bool, true, false, List, [], ◌∷◌, ◌++◌, length, replicate, All, Option, Some, None, refl, ap, ◌∙◌, arith, if◌then◌else◌}
use Rattle.std.proofs.lemmas.Bool.Decides.{nat_tests}
use Rattle.std.proofs.lemmas.Fmt.{decimal_is_IsNumeral}
use Rattle.std.proofs.lemmas.List.Elements.{All-append, All-replicate, All-tail, All-weaker}
use Rattle.std.proofs.lemmas.List.Splits.{slice_split-cons_yes, slice_split_at, slice_split_none}
use Rattle.std.specs.Fmt.{decimal}
use Rattle.std.specs.List.{slice_split}
use Rattle.std.specs.Prelude.{◌==◌, filter}
use Rattle.uug_talk.proofs.CallLemmas.{IsName-number, told_back}
use Rattle.uug_talk.proofs.LineLemmas.{line_in_front}
use Rattle.uug_talk.specs.Lines.{ended, is_line_feed, lines, without_empty_last}
use Rattle.uug_talk.specs.Name.{IsNameByte}
use Rattle.uug_talk.specs.Number.{number_of}
use Rattle.uug_talk.specs.Words.{is_space, is_word, words}
use Rattle.uug_talk.specs.declared.call.TheConstants.{NUMBER_MAX}
use Rattle.uug_io_lock.specs.DeviceLocks.{at_right, holder_by, holder_in, holder_of_lines, holder_of_words, lock_text}
use Rattle.uug_io_lock.specs.declared.holder.Holder.{Holder}
use Rattle.uug_io_lock.specs.declared.holder.Holder.TheVariants.{Process, Nobody}

-- ---- the number

some_of : (t : Bool) (o : Option ℕ) (n : ℕ) → (if t then o else None) ≡ Some n → o ≡ Some n
some_of true o n e = e
some_of false o n e = absurd cc

number_back : (n : ℕ) → n < 2 ^ 32 → number_of NUMBER_MAX (decimal n) ≡ Some n
number_back n h = some_of _ (number_of NUMBER_MAX (decimal n)) n (told_back n h)

printing : (n : ℕ) → n < 2 ^ 32 → All IsNameByte (decimal n)
printing n h = All-tail IsNameByte 81 (decimal n) (All-tail IsNameByte 45 (81 ∷ decimal n) (IsName-number n h).printing)

-- ---- the line

no_feed : (b : ℕ) → IsNameByte b → is_line_feed b ≡ false
no_feed b h = grind (arith, nat_tests)

line_alone : (line : List ℕ) → All (λ b. is_line_feed b ≡ false) line → lines (ended line) ≡ line ∷ []
line_alone line h = ap without_empty_last (slice_split_at is_line_feed line 10 [] h refl) ∙ line_in_front line []

padded_alone : (k n : ℕ) → n < 2 ^ 32 → lines (ended (replicate k 32 ++ decimal n)) ≡ (replicate k 32 ++ decimal n) ∷ []
padded_alone k n h =
    line_alone (replicate k 32 ++ decimal n)
    (All-append (λ b. is_line_feed b ≡ false) (replicate k 32) (decimal n)
    (All-replicate (λ b. is_line_feed b ≡ false) k 32 refl)
    (All-weaker IsNameByte (λ b. is_line_feed b ≡ false) no_feed (decimal n) (printing n h)))

-- ---- the word

no_space : (b : ℕ) → IsNameByte b → is_space b ≡ false
no_space b h = grind (arith, nat_tests)

behind_spaces : (k : ℕ) (word : List ℕ) → words (replicate k 32 ++ word) ≡ words word
behind_spaces zero word = refl
behind_spaces (suc k) word = ap (filter is_word) (slice_split-cons_yes is_space 32 (replicate k 32 ++ word) refl) ∙ behind_spaces k word

word_alone : (word : List ℕ) → 0 < length word → All (λ b. is_space b ≡ false) word → words word ≡ word ∷ []
word_alone [] some solid = absurd (omega (arith, some))
word_alone (b ∷ bs) some solid = ap (filter is_word) (slice_split_none is_space (b ∷ bs) solid)

-- ---- the holder

holds : (n : ℕ) → 0 < n → holder_by (Some n) ≡ Process n
holds n some =
    let differs : (n == 0) ≡ false = grind (arith, nat_tests) in
    ap (λ (t : Bool). if t then Nobody else Process n) differs

pub text_is_read : (n : ℕ) → 0 < n → n < 2 ^ 32 → holder_in (lock_text n) ≡ Process n
text_is_read n some h =
    let k = 10 - length (decimal n) in
    let solid = All-weaker IsNameByte (λ b. is_space b ≡ false) no_space (decimal n) (printing n h) in
    ap holder_of_lines (padded_alone k n h)
    ∙ ap holder_of_words (behind_spaces k (decimal n) ∙ word_alone (decimal n) (decimal_is_IsNumeral n (omega (arith, h))).0.0 solid)
    ∙ ap holder_by (number_back n h)
    ∙ holds n some
