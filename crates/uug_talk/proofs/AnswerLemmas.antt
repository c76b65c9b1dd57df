-- The function that reads an answer and the relation between a text and an answer agree.
use Rattle.std.proofs.Common.{◌≡◌, ◌==◌, ◌&&◌, inl, inr, ℕ, ◌≤◌, true, List, [], ◌∷◌, length, nat_lt, Result, Ok, Err, IfOk, refl, sym, ap, subst, ◌∙◌, arith}
use Rattle.std.proofs.lemmas.Bool.Decides.{nat_tests}
use Rattle.uug_talk.specs.declared.answer.Answer.{Answer}
use Rattle.uug_talk.specs.declared.answer.Answer.TheVariants.{SendYes, SendNever, SendLater, GiveYes, GiveNever, GiveLater, DoneYes, DoneYesMaster, DoneNever, DoneLater, HangYes, HangNo}
use Rattle.uug_talk.specs.declared.error.BadText.{BadText}
use Rattle.uug_talk.specs.declared.error.BadText.TheVariants as fault
use Rattle.uug_talk.specs.declared.words.TheConstants.{COMMAND_MAX}
use Rattle.uug_talk.specs.Answer.{BeginsWith, GivesMode, SpellsAnswer, ReadsAnswer, third, given_mode, answer_by, answer_of_words, answer_of}
use Rattle.uug_talk.specs.Refusal.{◌>>=◌}
use Rattle.uug_talk.specs.Words.{words}
use Rattle.uug_talk.proofs.ModeLemmas.{mode_read-of, mode_from_read}
use Rattle.uug_talk.proofs.ResultLemmas.{chosen, by_test, bind_ok}

-- What is written so is read.

third-other : (behind : List ℕ) (letter : ℕ) (same other : Answer) → ((cs : List ℕ) → behind ≡ letter ∷ cs → ⊥) → third behind letter same other ≡ other
third-other [] letter same other h = refl
third-other (c ∷ cs) letter same other h =
    elim (chosen (c == letter) same other (third (c ∷ cs) letter same other) refl) [
      | inl t ↦ absurd (let e : c ≡ letter = grind (arith, nat_tests, t.0) in h cs (ap (λ z. z ∷ cs) e))
      | inr t ↦ sym t.1
    ]

given_mode-of : (first : List ℕ) (more : List (List ℕ)) (mode : ℕ) → GivesMode (first ∷ more) mode → given_mode more ≡ Ok mode
given_mode-of first [] mode h = ap Ok (sym h)
given_mode-of first (word ∷ more) mode h = mode_read-of word h.0 ∙ ap Ok (sym h.1)

not_third : (ws : List (List ℕ)) (x y z : ℕ) (behind : List ℕ) (more : List (List ℕ)) → ws ≡ (x ∷ y ∷ behind) ∷ more → ¬ BeginsWith ws (x ∷ y ∷ z ∷ []) → (cs : List ℕ) → behind ≡ z ∷ cs → ⊥
not_third ws x y z behind more e n cs k = n (cs, more, e ∙ ap (λ b. (x ∷ y ∷ b) ∷ more) k)

pub answer-only : (ws : List (List ℕ)) (answer : Answer) → SpellsAnswer ws answer → answer_of_words ws ≡ Ok answer
answer-only ws SendYes (behind, more, e) = ap answer_of_words e
answer-only ws SendNever (behind, more, e) = ap answer_of_words e
answer-only ws SendLater ((behind, more, e), n) = ap answer_of_words e ∙ ap Ok (third-other behind 50 SendNever SendLater (not_third ws 83 78 50 behind more e n))
answer-only ws (GiveYes mode) ((behind, more, e), g) =
    let gives : GivesMode ((82 ∷ 89 ∷ behind) ∷ more) mode = subst (λ w. GivesMode w mode) e g in
    ap answer_of_words e ∙ ap (λ r. r >>= (λ m. Ok (GiveYes m))) (given_mode-of (82 ∷ 89 ∷ behind) more mode gives)
answer-only ws GiveNever (behind, more, e) = ap answer_of_words e
answer-only ws GiveLater ((behind, more, e), n) = ap answer_of_words e ∙ ap Ok (third-other behind 50 GiveNever GiveLater (not_third ws 82 78 50 behind more e n))
answer-only ws DoneYes ((behind, more, e), n) = ap answer_of_words e ∙ ap Ok (third-other behind 77 DoneYesMaster DoneYes (not_third ws 67 89 77 behind more e n))
answer-only ws DoneYesMaster (behind, more, e) = ap answer_of_words e
answer-only ws DoneNever (behind, more, e) = ap answer_of_words e
answer-only ws DoneLater ((behind, more, e), n) = ap answer_of_words e ∙ ap Ok (third-other behind 53 DoneNever DoneLater (not_third ws 67 78 53 behind more e n))
answer-only ws HangYes (behind, more, e) = ap answer_of_words e
answer-only ws HangNo (behind, more, e) = ap answer_of_words e

pub answer_of-spelled : (text : List ℕ) (answer : Answer) → ReadsAnswer text answer → answer_of text ≡ Ok answer
answer_of-spelled text answer h =
    let short : length text ≤ COMMAND_MAX = h.within in
    let e = answer-only (words text) answer h.spelled in
    grind (arith, nat_tests)

-- What is read is written so.

pub begins_two : (a b x y : ℕ) (behind : List ℕ) (more : List (List ℕ)) → ((a == x) && (b == y)) ≡ true → BeginsWith ((a ∷ b ∷ behind) ∷ more) (x ∷ y ∷ [])
begins_two a b x y behind more t =
    let p : a ≡ x = grind (arith, nat_tests) in
    let q : b ≡ y = grind (arith, nat_tests) in
    (behind, more, cc)

as_answer : (ws : List (List ℕ)) (found answer : Answer) → SpellsAnswer ws found → ◌≡◌ {A = Result Answer BadText} (Ok found) (Ok answer) → SpellsAnswer ws answer
as_answer ws found answer s e = let k : found ≡ answer = cc in subst (SpellsAnswer ws) k s

-- one of two answers, by the third letter
module _ (x y z : ℕ) (same other : Answer)
    (three : (ws : List (List ℕ)) → BeginsWith ws (x ∷ y ∷ z ∷ []) → SpellsAnswer ws same)
    (two : (ws : List (List ℕ)) → BeginsWith ws (x ∷ y ∷ []) → ¬ BeginsWith ws (x ∷ y ∷ z ∷ []) → SpellsAnswer ws other) where
  spells_third : (a b : ℕ) (behind : List ℕ) (more : List (List ℕ)) → ((a == x) && (b == y)) ≡ true → SpellsAnswer ((a ∷ b ∷ behind) ∷ more) (third behind z same other)
  spells_third a b [] more t = two _ (begins_two a b x y [] more t) (λ s. absurd (let e = s.2 in cc))
  spells_third a b (c ∷ cs) more t =
      let p : a ≡ x = grind (arith, nat_tests) in
      let q : b ≡ y = grind (arith, nat_tests) in
      elim (chosen (c == z) same other (third (c ∷ cs) z same other) refl) [
        | inl u ↦ (let k : c ≡ z = grind (arith, nat_tests, u.0) in subst (SpellsAnswer ((a ∷ b ∷ c ∷ cs) ∷ more)) u.1 (three _ (cs, more, cc)))
        | inr u ↦ subst (SpellsAnswer ((a ∷ b ∷ c ∷ cs) ∷ more)) u.1 (two _ (begins_two a b x y (c ∷ cs) more t) (λ s. absurd (let e = s.2 in let k : c ≡ z = cc in grind (arith, nat_tests, u.0))))
      ]

gives_mode : (first : List ℕ) (more : List (List ℕ)) (mode : ℕ) → given_mode more ≡ Ok mode → GivesMode (first ∷ more) mode
gives_mode first [] mode e = cc
gives_mode first (word ∷ more) mode e = mode_from_read word mode e

spells_by : (a b : ℕ) (behind : List ℕ) (more : List (List ℕ)) (answer : Answer) → answer_by a b behind more ≡ Ok answer → SpellsAnswer ((a ∷ b ∷ behind) ∷ more) answer
spells_by a b behind more answer e =
    let ws = (a ∷ b ∷ behind) ∷ more in
    by_test e (λ t e. as_answer ws _ answer (begins_two a b 83 89 behind more t) e) (λ _ e.
    by_test e (λ t e. as_answer ws _ answer (spells_third 83 78 50 SendNever SendLater (λ _ s. s) (λ _ s n. (s, n)) a b behind more t) e) (λ _ e.
    by_test e (λ t e. let m = bind_ok (given_mode more) _ answer e in as_answer ws (GiveYes m.0) answer (begins_two a b 82 89 behind more t, gives_mode (a ∷ b ∷ behind) more m.0 m.1) m.2) (λ _ e.
    by_test e (λ t e. as_answer ws _ answer (spells_third 82 78 50 GiveNever GiveLater (λ _ s. s) (λ _ s n. (s, n)) a b behind more t) e) (λ _ e.
    by_test e (λ t e. as_answer ws _ answer (spells_third 67 89 77 DoneYesMaster DoneYes (λ _ s. s) (λ _ s n. (s, n)) a b behind more t) e) (λ _ e.
    by_test e (λ t e. as_answer ws _ answer (spells_third 67 78 53 DoneNever DoneLater (λ _ s. s) (λ _ s n. (s, n)) a b behind more t) e) (λ _ e.
    by_test e (λ t e. as_answer ws _ answer (begins_two a b 72 89 behind more t) e) (λ _ e.
    by_test e (λ t e. as_answer ws _ answer (begins_two a b 72 78 behind more t) e) (λ _ e.
    absurd cc))))))))

spells_read : (ws : List (List ℕ)) (answer : Answer) → answer_of_words ws ≡ Ok answer → SpellsAnswer ws answer
spells_read [] answer e = absurd cc
spells_read ([] ∷ more) answer e = absurd cc
spells_read ((a ∷ []) ∷ more) answer e = absurd cc
spells_read ((a ∷ b ∷ behind) ∷ more) answer e = spells_by a b behind more answer e

pub answer_is_spelled : (text : List ℕ) (answer : Answer) → answer_of text ≡ Ok answer → ReadsAnswer text answer
answer_is_spelled text answer e =
    by_test {b = nat_lt COMMAND_MAX (length text)} {x = Err fault.TooLong} {y = answer_of_words (words text)} {z = Ok answer} e (λ _ e. absurd cc)
    (λ t e. record { within = grind (arith, nat_tests); spelled = spells_read (words text) answer e })

pub found_answer : (text : List ℕ) (r : Result Answer BadText) → r ≡ answer_of text → IfOk r (λ answer. ReadsAnswer text answer)
found_answer text (Ok answer) e = answer_is_spelled text answer (sym e)
found_answer text (Err d) e = tt
