-- Each refusal comes for its reason.
use Rattle.std.proofs.Common.{◌≡◌, ◌==◌, ◌&&◌, inl, inr, ℕ, ◌≤◌, true, false, cond, List, [], ◌∷◌, length, codes, nat_lt, Option, Some, None, Result, Ok, Err, IfErr, Contains, refl, sym, subst, ◌∙◌, arith}
use Rattle.std.proofs.lemmas.Bool.{false≢true}
use Rattle.std.proofs.lemmas.Bool.Decides.{nat_tests}
use Rattle.std.specs.List.{list_any}
use Rattle.uug_talk.specs.declared.answer.Answer.{Answer}
use Rattle.uug_talk.specs.declared.answer.Answer.TheVariants.{SendYes, SendNever, SendLater, GiveYes, GiveNever, GiveLater, DoneYes, DoneYesMaster, DoneNever, DoneLater, HangYes, HangNo}
use Rattle.uug_talk.specs.declared.error.BadText.{BadText}
use Rattle.uug_talk.specs.declared.error.BadText.TheVariants as fault
use Rattle.uug_talk.specs.declared.order.Order.{Order}
use Rattle.uug_talk.specs.declared.words.TheConstants.{COMMAND_MAX}
use Rattle.uug_talk.specs.Answer.{BeginsWith, SpellsAnswer, RefusedLetters, IsRefusedAnswer, third, given_mode, answer_by, answer_of_words, answer_of}
use Rattle.uug_talk.specs.Mode.{mode_read}
use Rattle.uug_talk.specs.Name.{IsName, name_read}
use Rattle.uug_talk.specs.Order.{IsOptions, SendFields, RequestFields, HasLetter, RefusedWords, IsRefusedOrder, begins_with_dash, temp_read, send_read, send_of, request_read, request_of, order_by, order_of_words, order_of}
use Rattle.uug_talk.specs.Refusal.{◌>>=◌}
use Rattle.uug_talk.specs.Words.{words}
use Rattle.uug_talk.proofs.AnswerLemmas.{answer-only, begins_two}
use Rattle.uug_talk.proofs.ModeLemmas.{no_mode_from_err}
use Rattle.uug_talk.proofs.NameLemmas.{no_name_from_err, IsName-read}
use Rattle.uug_talk.proofs.OrderLemmas.{contains_from_any, dash_begins, dash_from_test, copy_from_read}
use Rattle.uug_talk.proofs.ResultLemmas.{by_test, bind_err}

-- Commands.

refused_as : (ws : List (List ℕ)) (c d : BadText) → d ≡ c → RefusedWords c ws → RefusedWords d ws
refused_as ws c d e r = subst (λ z. RefusedWords z ws) (sym e) r

no_copy_from_err : (options word : List ℕ) (d : BadText) → temp_read options word ≡ Err d → (d ≡ fault.Name) × Contains options 67 × (¬ IsName word)
no_copy_from_err options word d e =
    by_test {b = list_any (λ b. b == 67) options} {x = name_read word >>= (λ temp. Ok (Some temp))} {y = Ok None} {z = Err d} e
    (λ t e. elim (bind_err (name_read word) (λ temp. Ok (Some temp)) d e) [
      | inl k ↦ (let n = no_name_from_err word d k in (n.0, contains_from_any 67 options t, n.1))
      | inr x ↦ absurd (let k = x.2 in cc)
    ])
    (λ _ e. absurd cc)

copy_is : (options word : List ℕ) (temp : Option (List ℕ)) → temp_read options word ≡ Ok temp → Contains options 67 → IsName word
copy_is options word None e c = absurd (copy_from_read options word None e c)
copy_is options word (Some temp) e c = let n = copy_from_read options word (Some temp) e in subst IsName (sym n.2) n.1

no_options : (options : List ℕ) → begins_with_dash options ≡ false → IsOptions options → ⊥
no_options options t o = false≢true (sym t ∙ dash_begins options o)

refused_send : (source target user options copy digits : List ℕ) (more : List (List ℕ)) (d : BadText) → send_read source target user options copy digits ≡ Err d
    → RefusedWords d (codes "S" ∷ source ∷ target ∷ user ∷ options ∷ copy ∷ digits ∷ more)
refused_send source target user options copy digits more d e =
    let ws : List (List ℕ) = codes "S" ∷ source ∷ target ∷ user ∷ options ∷ copy ∷ digits ∷ more in
    by_test e
    (λ t e.
    let f : SendFields ws = record { source = source; target = target; user = user; options = options; copy = copy; digits = digits; more = more; spelled = refl; dash = dash_from_test options t } in
    elim (bind_err (name_read source) _ d e) [
      | inl k ↦ (let n = no_name_from_err source d k in refused_as ws fault.Name d n.0 (inl (f, λ s. n.1 s.0)))
      | inr s ↦ elim (bind_err (name_read target) _ d s.2) [
        | inl k ↦ (let n = no_name_from_err target d k in refused_as ws fault.Name d n.0 (inl (f, λ s. n.1 s.1)))
        | inr t' ↦ elim (bind_err (name_read user) _ d t'.2) [
          | inl k ↦ (let n = no_name_from_err user d k in refused_as ws fault.Name d n.0 (inl (f, λ s. n.1 s.2)))
          | inr u ↦ elim (bind_err (temp_read options copy) _ d u.2) [
            | inl k ↦ (let n = no_copy_from_err options copy d k in refused_as ws fault.Name d n.0 (inl (f, λ s. n.2 (s.3 n.1))))
            | inr c ↦ elim (bind_err (mode_read digits) _ d c.2) [
              | inl k ↦ (let n = no_mode_from_err digits d k in refused_as ws fault.Mode d n.0
                  (f, (IsName-read source s.0 s.1, IsName-read target t'.0 t'.1, IsName-read user u.0 u.1, copy_is options copy c.0 c.1), n.1))
              | inr m ↦ absurd (let k = m.2 in cc)
            ]
          ]
        ]
      ]
    ])
    (λ t e. refused_as ws fault.Fields d (cc) (inl (
      (source ∷ target ∷ user ∷ options ∷ copy ∷ digits ∷ more, refl),
      λ g.
          no_options options t (let s = g.spelled in let k : g.options ≡ options = cc in subst IsOptions k g.dash),
    )))

refused_request : (source target user options : List ℕ) (more : List (List ℕ)) (d : BadText) → request_read source target user options ≡ Err d
    → RefusedWords d (codes "R" ∷ source ∷ target ∷ user ∷ options ∷ more)
refused_request source target user options more d e =
    let ws : List (List ℕ) = codes "R" ∷ source ∷ target ∷ user ∷ options ∷ more in
    by_test e
    (λ t e.
    let f : RequestFields ws = record { source = source; target = target; user = user; options = options; more = more; spelled = refl; dash = dash_from_test options t } in
    elim (bind_err (name_read source) _ d e) [
      | inl k ↦ (let n = no_name_from_err source d k in refused_as ws fault.Name d n.0 (inr (f, λ s. n.1 s.0)))
      | inr s ↦ elim (bind_err (name_read target) _ d s.2) [
        | inl k ↦ (let n = no_name_from_err target d k in refused_as ws fault.Name d n.0 (inr (f, λ s. n.1 s.1)))
        | inr t' ↦ elim (bind_err (name_read user) _ d t'.2) [
          | inl k ↦ (let n = no_name_from_err user d k in refused_as ws fault.Name d n.0 (inr (f, λ s. n.1 s.2)))
          | inr u ↦ absurd (let k = u.2 in cc)
        ]
      ]
    ])
    (λ t e. refused_as ws fault.Fields d (cc) (inr (
      (source ∷ target ∷ user ∷ options ∷ more, refl),
      λ g.
          no_options options t (let s = g.spelled in let k : g.options ≡ options = cc in subst IsOptions k g.dash),
    )))

few_for_send : (ws : List (List ℕ)) (d : BadText) → (SendFields ((83 ∷ []) ∷ ws) → ⊥) → ◌≡◌ {A = Result Order BadText} (Err fault.Fields) (Err d) → RefusedWords d (codes "S" ∷ ws)
few_for_send ws d n e = refused_as (codes "S" ∷ ws) fault.Fields d (cc) (inl ((ws, refl), n))

refused_send_words : (ws : List (List ℕ)) (d : BadText) → send_of ws ≡ Err d → RefusedWords d (codes "S" ∷ ws)
refused_send_words [] d e = few_for_send [] d (λ g. absurd (let s = g.spelled in cc)) e
refused_send_words (a ∷ []) d e = few_for_send (a ∷ []) d (λ g. absurd (let s = g.spelled in cc)) e
refused_send_words (a ∷ b ∷ []) d e = few_for_send (a ∷ b ∷ []) d (λ g. absurd (let s = g.spelled in cc)) e
refused_send_words (a ∷ b ∷ c ∷ []) d e = few_for_send (a ∷ b ∷ c ∷ []) d (λ g. absurd (let s = g.spelled in cc)) e
refused_send_words (a ∷ b ∷ c ∷ o ∷ []) d e = few_for_send (a ∷ b ∷ c ∷ o ∷ []) d (λ g. absurd (let s = g.spelled in cc)) e
refused_send_words (a ∷ b ∷ c ∷ o ∷ f ∷ []) d e = few_for_send (a ∷ b ∷ c ∷ o ∷ f ∷ []) d (λ g. absurd (let s = g.spelled in cc)) e
refused_send_words (a ∷ b ∷ c ∷ o ∷ f ∷ g ∷ more) d e = refused_send a b c o f g more d e

few_for_request : (ws : List (List ℕ)) (d : BadText) → (RequestFields ((82 ∷ []) ∷ ws) → ⊥) → ◌≡◌ {A = Result Order BadText} (Err fault.Fields) (Err d) → RefusedWords d (codes "R" ∷ ws)
few_for_request ws d n e = refused_as (codes "R" ∷ ws) fault.Fields d (cc) (inr ((ws, refl), n))

refused_request_words : (ws : List (List ℕ)) (d : BadText) → request_of ws ≡ Err d → RefusedWords d (codes "R" ∷ ws)
refused_request_words [] d e = few_for_request [] d (λ g. absurd (let s = g.spelled in cc)) e
refused_request_words (a ∷ []) d e = few_for_request (a ∷ []) d (λ g. absurd (let s = g.spelled in cc)) e
refused_request_words (a ∷ b ∷ []) d e = few_for_request (a ∷ b ∷ []) d (λ g. absurd (let s = g.spelled in cc)) e
refused_request_words (a ∷ b ∷ c ∷ []) d e = few_for_request (a ∷ b ∷ c ∷ []) d (λ g. absurd (let s = g.spelled in cc)) e
refused_request_words (a ∷ b ∷ c ∷ o ∷ more) d e = refused_request a b c o more d e

no_letter : (ws : List (List ℕ)) (d : BadText) → ((letter : ℕ) → HasLetter ws letter → ⊥) → ◌≡◌ {A = Result Order BadText} (Err fault.Unknown) (Err d) → RefusedWords d ws
no_letter ws d n e = refused_as ws fault.Unknown d (cc) (n 83, n 82, n 72)

other_letter : (letter y : ℕ) (more : List (List ℕ)) → (letter == y) ≡ false → HasLetter ((letter ∷ []) ∷ more) y → ⊥
other_letter letter y more t (m, e) = let k : letter ≡ y = cc in grind (arith, nat_tests)

refused_by : (letter : ℕ) (more : List (List ℕ)) (d : BadText) → order_by letter more ≡ Err d → RefusedWords d ((letter ∷ []) ∷ more)
refused_by letter more d e =
    by_test e (λ t e. let k : 83 ≡ letter = grind (arith, nat_tests) in subst (λ z. RefusedWords d ((z ∷ []) ∷ more)) k (refused_send_words more d e)) (λ s e.
    by_test e (λ t e. let k : 82 ≡ letter = grind (arith, nat_tests) in subst (λ z. RefusedWords d ((z ∷ []) ∷ more)) k (refused_request_words more d e)) (λ r e.
    by_test e (λ _ e. absurd cc) (λ h e. refused_as ((letter ∷ []) ∷ more) fault.Unknown d (cc)
    (other_letter letter 83 more s, other_letter letter 82 more r, other_letter letter 72 more h))))

refused_words : (ws : List (List ℕ)) (d : BadText) → order_of_words ws ≡ Err d → RefusedWords d ws
refused_words [] d e = no_letter [] d (λ l h. absurd (let k = h.1 in cc)) e
refused_words ([] ∷ more) d e = no_letter ([] ∷ more) d (λ l h. absurd (let k = h.1 in cc)) e
refused_words ((letter ∷ []) ∷ more) d e = refused_by letter more d e
refused_words ((letter ∷ next ∷ behind) ∷ more) d e = no_letter ((letter ∷ next ∷ behind) ∷ more) d (λ l h. absurd (let k = h.1 in cc)) e

within_order : (text : List ℕ) (d : BadText) → length text ≤ COMMAND_MAX → RefusedWords d (words text) → IsRefusedOrder d text
within_order text fault.TooLong l r = absurd r
within_order text fault.Unknown l r = (l, r)
within_order text fault.Fields l r = (l, r)
within_order text fault.Name l r = (l, r)
within_order text fault.Mode l r = (l, r)
within_order text fault.Memory l r = (l, r)

order_refused : (text : List ℕ) (d : BadText) → order_of text ≡ Err d → IsRefusedOrder d text
order_refused text d e =
    by_test {b = nat_lt COMMAND_MAX (length text)} {x = Err fault.TooLong} {y = order_of_words (words text)} {z = Err d} e
    (λ t e. let k : fault.TooLong ≡ d = cc in subst (λ z. IsRefusedOrder z text) k (grind (arith, nat_tests)))
    (λ t e. within_order text d (grind (arith, nat_tests)) (refused_words (words text) d e))

pub refused_order : (text : List ℕ) (r : Result Order BadText) → r ≡ order_of text → IfErr r (λ d. IsRefusedOrder d text)
refused_order text (Ok order) e = tt
refused_order text (Err d) e = order_refused text d (sym e)

-- Answers.

refused_like : (ws : List (List ℕ)) (c d : BadText) → d ≡ c → RefusedLetters c ws → RefusedLetters d ws
refused_like ws c d e r = subst (λ z. RefusedLetters z ws) (sym e) r

not_spelled : (ws : List (List ℕ)) (d : BadText) → answer_of_words ws ≡ Err d → (answer : Answer) → ¬ SpellsAnswer ws answer
not_spelled ws d e answer s = absurd (let k = sym (answer-only ws answer s) ∙ e in cc)

bad_mode : (a b : ℕ) (behind : List ℕ) (more : List (List ℕ)) (d : BadText) → ((a == 82) && (b == 89)) ≡ true → given_mode more ≡ Err d → RefusedLetters d ((a ∷ b ∷ behind) ∷ more)
bad_mode a b behind [] d t e = absurd cc
bad_mode a b behind (word ∷ more) d t e =
    let n = no_mode_from_err word d e in
    refused_like ((a ∷ b ∷ behind) ∷ word ∷ more) fault.Mode d n.0 (begins_two a b 82 89 behind (word ∷ more) t, (a ∷ b ∷ behind, word, more, refl, n.1))

not_ry : (a b : ℕ) (behind : List ℕ) (more : List (List ℕ)) → ((a == 82) && (b == 89)) ≡ false → ¬ BeginsWith ((a ∷ b ∷ behind) ∷ more) (82 ∷ 89 ∷ [])
not_ry a b behind more t (rest, ms, e) = let k : a ≡ 82 = cc in let l : b ≡ 89 = cc in absurd (grind (arith, nat_tests))

no_err : {A P : Type 0} {x : A} {d : BadText} → ◌≡◌ {A = Result A BadText} (Ok x) (Err d) → P
no_err e = absurd cc

err_is : {A : Type 0} {c d : BadText} → ◌≡◌ {A = Result A BadText} (Err c) (Err d) → d ≡ c
err_is e = cc

-- the tests from one on
abbrev from_test_8 : ℕ → ℕ → List ℕ → List (List ℕ) → Result Answer BadText
from_test_8 a b behind more = cond ((a == 72) && (b == 78)) (Ok HangNo) (Err fault.Unknown)

abbrev from_test_7 : ℕ → ℕ → List ℕ → List (List ℕ) → Result Answer BadText
from_test_7 a b behind more = cond ((a == 72) && (b == 89)) (Ok HangYes) (from_test_8 a b behind more)

abbrev from_test_6 : ℕ → ℕ → List ℕ → List (List ℕ) → Result Answer BadText
from_test_6 a b behind more = cond ((a == 67) && (b == 78)) (Ok (third behind 53 DoneNever DoneLater)) (from_test_7 a b behind more)

abbrev from_test_5 : ℕ → ℕ → List ℕ → List (List ℕ) → Result Answer BadText
from_test_5 a b behind more = cond ((a == 67) && (b == 89)) (Ok (third behind 77 DoneYesMaster DoneYes)) (from_test_6 a b behind more)

abbrev from_test_4 : ℕ → ℕ → List ℕ → List (List ℕ) → Result Answer BadText
from_test_4 a b behind more = cond ((a == 82) && (b == 78)) (Ok (third behind 50 GiveNever GiveLater)) (from_test_5 a b behind more)

abbrev from_test_3 : ℕ → ℕ → List ℕ → List (List ℕ) → Result Answer BadText
from_test_3 a b behind more = cond ((a == 82) && (b == 89)) (given_mode more >>= (λ mode. Ok (GiveYes mode))) (from_test_4 a b behind more)

abbrev from_test_2 : ℕ → ℕ → List ℕ → List (List ℕ) → Result Answer BadText
from_test_2 a b behind more = cond ((a == 83) && (b == 78)) (Ok (third behind 50 SendNever SendLater)) (from_test_3 a b behind more)

refused_letters_by : (a b : ℕ) (behind : List ℕ) (more : List (List ℕ)) (d : BadText) → answer_by a b behind more ≡ Err d → RefusedLetters d ((a ∷ b ∷ behind) ∷ more)
refused_letters_by a b behind more d whole =
    by_test {b = (a == 83) && (b == 89)} {x = Ok SendYes} {y = from_test_2 a b behind more} {z = Err d} whole (λ _ e. no_err e) (λ _ e.
    by_test {b = (a == 83) && (b == 78)} {x = Ok (third behind 50 SendNever SendLater)} {y = from_test_3 a b behind more} {z = Err d} e (λ _ e. no_err e) (λ _ e.
    by_test {b = (a == 82) && (b == 89)} {x = given_mode more >>= (λ mode. Ok (GiveYes mode))} {y = from_test_4 a b behind more} {z = Err d} e (λ t e. elim (bind_err (given_mode more) (λ mode. Ok (GiveYes mode)) d e) [ inl k ↦ bad_mode a b behind more d t k | inr x ↦ no_err x.2 ]) (λ r e.
    by_test {b = (a == 82) && (b == 78)} {x = Ok (third behind 50 GiveNever GiveLater)} {y = from_test_5 a b behind more} {z = Err d} e (λ _ e. no_err e) (λ _ e.
    by_test {b = (a == 67) && (b == 89)} {x = Ok (third behind 77 DoneYesMaster DoneYes)} {y = from_test_6 a b behind more} {z = Err d} e (λ _ e. no_err e) (λ _ e.
    by_test {b = (a == 67) && (b == 78)} {x = Ok (third behind 53 DoneNever DoneLater)} {y = from_test_7 a b behind more} {z = Err d} e (λ _ e. no_err e) (λ _ e.
    by_test {b = (a == 72) && (b == 89)} {x = Ok HangYes} {y = from_test_8 a b behind more} {z = Err d} e (λ _ e. no_err e) (λ _ e.
    by_test {b = (a == 72) && (b == 78)} {x = Ok HangNo} {y = Err fault.Unknown} {z = Err d} e (λ _ e. no_err e) (λ _ e.
    refused_like ((a ∷ b ∷ behind) ∷ more) fault.Unknown d (err_is e) (not_spelled ((a ∷ b ∷ behind) ∷ more) d whole, not_ry a b behind more r)))))))))

refused_letters : (ws : List (List ℕ)) (d : BadText) → answer_of_words ws ≡ Err d → RefusedLetters d ws
refused_letters [] d e = refused_like [] fault.Unknown d (cc) (not_spelled [] d e, λ s. absurd (let k = s.2 in cc))
refused_letters ([] ∷ more) d e = refused_like ([] ∷ more) fault.Unknown d (cc) (not_spelled ([] ∷ more) d e, λ s. absurd (let k = s.2 in cc))
refused_letters ((a ∷ []) ∷ more) d e = refused_like ((a ∷ []) ∷ more) fault.Unknown d (cc) (not_spelled ((a ∷ []) ∷ more) d e, λ s. absurd (let k = s.2 in cc))
refused_letters ((a ∷ b ∷ behind) ∷ more) d e = refused_letters_by a b behind more d e

within_answer : (text : List ℕ) (d : BadText) → length text ≤ COMMAND_MAX → RefusedLetters d (words text) → IsRefusedAnswer d text
within_answer text fault.TooLong l r = absurd r
within_answer text fault.Unknown l r = (l, r)
within_answer text fault.Fields l r = (l, r)
within_answer text fault.Name l r = (l, r)
within_answer text fault.Mode l r = (l, r)
within_answer text fault.Memory l r = (l, r)

answer_refused : (text : List ℕ) (d : BadText) → answer_of text ≡ Err d → IsRefusedAnswer d text
answer_refused text d e =
    by_test {b = nat_lt COMMAND_MAX (length text)} {x = Err fault.TooLong} {y = answer_of_words (words text)} {z = Err d} e
    (λ t e. let k : fault.TooLong ≡ d = cc in subst (λ z. IsRefusedAnswer z text) k (grind (arith, nat_tests)))
    (λ t e. within_answer text d (grind (arith, nat_tests)) (refused_letters (words text) d e))

pub refused_answer : (text : List ℕ) (r : Result Answer BadText) → r ≡ answer_of text → IfErr r (λ d. IsRefusedAnswer d text)
refused_answer text (Ok answer) e = tt
refused_answer text (Err d) e = answer_refused text d (sym e)
