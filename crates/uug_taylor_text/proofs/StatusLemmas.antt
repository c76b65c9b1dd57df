-- The line of a status is read as the status.
use Rattle.std.proofs.Common.{◌≡◌, ℕ, ◌<◌, ◌≤◌, Bool, true, false, List, [], ◌∷◌, ◌++◌, length, Option, Some, None, refl, ap, ◌∙◌, arith, append_assoc, if◌then◌else◌}
use Rattle.std.proofs.lemmas.List.Elements.{All-from_recursion, All-tail}
use Rattle.std.proofs.lemmas.Fmt.{decimal_is_IsNumeral}
use Rattle.std.specs.Fmt.{decimal}
use Rattle.std.specs.List.{slice_split}
use Rattle.uug_talk.proofs.CallLemmas.{IsName-number, told_back}
use Rattle.uug_talk.proofs.JoinedLemmas.{IsWord-name}
use Rattle.uug_talk.specs.Call.{number_word}
use Rattle.uug_talk.specs.Number.{number_of}
use Rattle.uug_talk.specs.Words.{is_space, words}
use Rattle.uug_talk.specs.declared.call.TheConstants.{NUMBER_MAX}
use Rattle.uug_taylor_text.proofs.CommandLemmas.{word_passes}
use Rattle.uug_taylor_text.proofs.SpacedLemmas.{words_behind}
use Rattle.uug_taylor_text.specs.CommandTexts.{HasNoSpace}
use Rattle.uug_taylor_text.specs.StatusTexts.{IsStatus, state_digit, state_of, state_text, status_line, status_of, status_of_words}
use Rattle.uug_taylor_text.specs.declared.status.CallState.{CallState}
use Rattle.uug_taylor_text.specs.declared.status.CallState.TheVariants as states
use Rattle.uug_taylor_text.specs.declared.status.Status.{Status}

-- ---- numbers

some_of : (t : Bool) (o : Option ℕ) (n : ℕ) → (if t then o else None) ≡ Some n → o ≡ Some n
some_of true o n e = e
some_of false o n e = absurd cc

number_back : (n : ℕ) → n ≤ NUMBER_MAX → number_of NUMBER_MAX (decimal n) ≡ Some n
number_back n h = some_of _ (number_of NUMBER_MAX (decimal n)) n (told_back n (omega (arith, h)))

-- its digits stand behind -Q in a word that is a name
number_is_solid : (n : ℕ) → n ≤ NUMBER_MAX → HasNoSpace (decimal n)
number_is_solid n h =
    All-tail (λ b. is_space b ≡ false) 81 (decimal n)
    (All-tail (λ b. is_space b ≡ false) 45 (81 ∷ decimal n)
    (IsWord-name (number_word n) (IsName-number n (omega (arith, h)))).solid)

number_is_some : (n : ℕ) → n ≤ NUMBER_MAX → 0 < length (decimal n)
number_is_some n h = (decimal_is_IsNumeral n (omega (arith, h))).0.0

-- ---- words

word_in_front : (word rest : List ℕ) → 0 < length word → HasNoSpace word → words (word ++ 32 ∷ rest) ≡ word ∷ words rest
word_in_front word rest some solid = words_behind word rest solid ∙ word_passes word (slice_split is_space rest) some

number_in_front : (n : ℕ) (rest : List ℕ) → n ≤ NUMBER_MAX → words (decimal n ++ 32 ∷ rest) ≡ decimal n ∷ words rest
number_in_front n rest h = word_in_front (decimal n) rest (number_is_some n h) (number_is_solid n h)

digit_is_solid : (state : CallState) → is_space (state_digit state) ≡ false
digit_is_solid states.Complete = refl
digit_is_solid states.PortUnavailable = refl
digit_is_solid states.DialFailed = refl
digit_is_solid states.LoginFailed = refl
digit_is_solid states.HandshakeFailed = refl
digit_is_solid states.CallFailed = refl
digit_is_solid states.Talking = refl
digit_is_solid states.WrongTime = refl

digit_in_front : (state : CallState) (rest : List ℕ) → words (state_digit state ∷ 32 ∷ rest) ≡ (state_digit state ∷ []) ∷ words rest
digit_in_front state rest =
    word_in_front (state_digit state ∷ []) rest (omega arith)
    (All-from_recursion (λ b. is_space b ≡ false) (state_digit state ∷ []) (digit_is_solid state, tt))

state_back : (state : CallState) → state_of (state_digit state ∷ []) ≡ Some state
state_back states.Complete = refl
state_back states.PortUnavailable = refl
state_back states.DialFailed = refl
state_back states.LoginFailed = refl
state_back states.HandshakeFailed = refl
state_back states.CallFailed = refl
state_back states.Talking = refl
state_back states.WrongTime = refl

-- ---- the line

right_nested : (a b c d e f : List ℕ) → a ++ b ++ c ++ d ++ e ++ f ≡ a ++ (b ++ (c ++ (d ++ (e ++ f))))
right_nested a b c d e f =
    append_assoc (a ++ b ++ c ++ d) e f
    ∙ (append_assoc (a ++ b ++ c) d (e ++ f)
    ∙ (append_assoc (a ++ b) c (d ++ (e ++ f)) ∙ append_assoc a b (c ++ (d ++ (e ++ f)))))

-- what stands behind the numbers
abbrev tail : Status → List ℕ → List ℕ
tail s system = state_text s.state ++ 32 ∷ (system ++ 10 ∷ [])

words_of_line : (s : Status) (system : List ℕ) → IsStatus s
    → words (status_line s system) ≡ (state_digit s.state ∷ []) ∷ decimal s.tries ∷ decimal s.time ∷ decimal s.wait ∷ words (tail s system)
words_of_line s system h =
    ap words (right_nested (state_digit s.state ∷ 32 ∷ decimal s.tries) (32 ∷ decimal s.time) (32 ∷ decimal s.wait) (32 ∷ state_text s.state) (32 ∷ system) (10 ∷ []))
    ∙ (digit_in_front s.state (decimal s.tries ++ 32 ∷ (decimal s.time ++ 32 ∷ (decimal s.wait ++ 32 ∷ tail s system)))
    ∙ ap (λ ws. (state_digit s.state ∷ []) ∷ ws)
    (number_in_front s.tries (decimal s.time ++ 32 ∷ (decimal s.wait ++ 32 ∷ tail s system)) h.tries
    ∙ ap (λ ws. decimal s.tries ∷ ws)
    (number_in_front s.time (decimal s.wait ++ 32 ∷ tail s system) h.time
    ∙ ap (λ ws. decimal s.time ∷ ws) (number_in_front s.wait (tail s system) h.wait))))

pub written_is_read : (s : Status) (system : List ℕ) → IsStatus s → status_of (status_line s system) ≡ Some s
written_is_read s system h =
    ap status_of_words (words_of_line s system h)
    ∙ rw (state_back s.state, number_back s.tries h.tries, number_back s.time h.time, number_back s.wait h.wait) refl
