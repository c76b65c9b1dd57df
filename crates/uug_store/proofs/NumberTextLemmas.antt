-- A number that was written as a line is read as the number.
use Rattle.std.proofs.Common.{◌≡◌, ℕ, ◌<◌, ◌^◌, Bool, true, false, List, [], ◌∷◌, All, Option, Some, None, refl, ap, ◌∙◌, arith, if◌then◌else◌}
use Rattle.std.proofs.lemmas.Bool.Decides.{nat_tests}
use Rattle.std.proofs.lemmas.List.Elements.{All-weaker, All-tail}
use Rattle.std.proofs.lemmas.List.Splits.{slice_split_at}
use Rattle.std.specs.Fmt.{decimal}
use Rattle.uug_talk.specs.Name.{IsNameByte}
use Rattle.uug_talk.specs.Number.{number_of}
use Rattle.uug_talk.specs.declared.call.TheConstants.{NUMBER_MAX}
use Rattle.uug_talk.proofs.CallLemmas.{IsName-number, told_back}
use Rattle.uug_talk.specs.Lines.{is_line_feed, without_empty_last, lines, ended}
use Rattle.uug_talk.proofs.LineLemmas.{line_in_front}
use Rattle.uug_store.specs.NumberText.{number_in, number_line, number_of_lines}

some_of : (t : Bool) (o : Option ℕ) (n : ℕ) → (if t then o else None) ≡ Some n → o ≡ Some n
some_of true o n e = e
some_of false o n e = absurd cc

number_back : (n : ℕ) → n < 2 ^ 32 → number_of NUMBER_MAX (decimal n) ≡ Some n
number_back n h = some_of _ (number_of NUMBER_MAX (decimal n)) n (told_back n h)

no_feed : (b : ℕ) → IsNameByte b → is_line_feed b ≡ false
no_feed b h = grind (arith, nat_tests)

-- its digits stand behind -Q in a word that is a name
no_feed_in_digits : (n : ℕ) → n < 2 ^ 32 → All (λ b. is_line_feed b ≡ false) (decimal n)
no_feed_in_digits n h =
    All-weaker IsNameByte (λ b. is_line_feed b ≡ false) no_feed (decimal n)
    (All-tail IsNameByte 81 (decimal n) (All-tail IsNameByte 45 (81 ∷ decimal n) (IsName-number n h).printing))

line_alone : (line : List ℕ) → All (λ b. is_line_feed b ≡ false) line → lines (ended line) ≡ line ∷ []
line_alone line h = ap without_empty_last (slice_split_at is_line_feed line 10 [] h refl) ∙ line_in_front line []

pub written_is_read : (n : ℕ) → n < 2 ^ 32 → number_in (number_line n) ≡ Some n
written_is_read n h = ap number_of_lines (line_alone (decimal n) (no_feed_in_digits n h)) ∙ number_back n h

-- ---- reading line by line

pub no_line : (text : List ℕ) → lines text ≡ [] → number_in text ≡ None
no_line text e = ap number_of_lines e

pub one_line : (text line behind : List ℕ) → lines text ≡ line ∷ lines behind → lines behind ≡ []
    → number_in text ≡ number_of NUMBER_MAX line
one_line text line behind e f = ap number_of_lines (e ∙ ap (λ ls. line ∷ ls) f)
