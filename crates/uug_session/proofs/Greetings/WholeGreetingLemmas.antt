-- What the delivered bytes make of a greeting is one thing.
use Rattle.std.proofs.Common.{◌≡◌, ℕ, zero, suc, List, [], ◌∷◌, ◌++◌, Option, take, refl, sym, ap, subst, ◌∙◌}
use Rattle.std.proofs.lemmas.List.{append_cancel_left}
use Rattle.uug_talk.specs.StreamTexts.{StreamTexts, StandBefore, texts_of}
use Rattle.uug_session.specs.declared.greeting.Greeting.{Greeting}
use Rattle.uug_session.specs.Greeting.{greeting_at_first, first_texts}
use Rattle.uug_conversation.specs.declared.side.Side.{Side}
use Rattle.uug_session.specs.WholeGreeting.{GreetingRun, GreetsBy, Greets, texts_came, greeting_run, saying_first, whole_greeting}
use Rattle.uug_talk.proofs.StreamTextLemmas.{reads, reads_only}
use Rattle.uug_talk.proofs.FirstTextLemmas.{same_text}

-- the first texts of several stand in front of some bytes
pub first_stand : (texts : List (List ℕ)) (n : ℕ) (rest stream : List ℕ) → StandBefore texts rest stream → (behind : List ℕ) × StandBefore (take n texts) behind stream
first_stand texts zero rest stream h = (stream, refl)
first_stand [] (suc n) rest stream h = (stream, refl)
first_stand (text ∷ texts) (suc n) rest stream (front, behind, e, first, more) =
    let found = first_stand texts n rest behind more in
    (found.0, (front, behind, e, first, found.1))

-- what stands behind texts is one list
pub one_rest : (texts : List (List ℕ)) (rest other stream : List ℕ) → StandBefore texts rest stream → StandBefore texts other stream → rest ≡ other
one_rest [] rest other stream h k = sym h ∙ k
one_rest (text ∷ texts) rest other stream (front, behind, e, first, more) (front', behind', e', first', more') =
    let same = same_text front text behind front' text behind' first first' (sym e ∙ e') in
    let left = append_cancel_left front behind behind' (sym e ∙ e' ∙ ap (λ f. f ++ behind') (sym same.0)) in
    one_rest texts rest other behind more (subst (λ b. StandBefore texts other b) (sym left) more')

pub some_run : (me peer : List ℕ) (number : Option ℕ) (g : Greeting) (delivered : List ℕ) → (behind : List ℕ) × GreetsBy me peer number g delivered (greeting_run me peer number g delivered) behind
some_run me peer number g delivered =
    let has = reads delivered in
    let found = texts_of delivered in
    let stand = first_stand found.texts (greeting_run me peer number g delivered).used has.rest delivered has.before in
    (stand.0, record { found = found; texts = has; came = refl; left = stand.1 })

pub one_run : (me peer : List ℕ) (number : Option ℕ) (g : Greeting) (delivered : List ℕ) (run : GreetingRun) (behind : List ℕ) → GreetsBy me peer number g delivered run behind → run ≡ greeting_run me peer number g delivered
one_run me peer number g delivered run behind h =
    h.came ∙ ap (λ (f : StreamTexts). texts_came me peer f.texts f.end number g) (reads_only delivered h.found h.texts)

pub one_left : (me peer : List ℕ) (number : Option ℕ) (g : Greeting) (delivered : List ℕ) (run : GreetingRun) (behind other : List ℕ) → GreetsBy me peer number g delivered run behind → GreetsBy me peer number g delivered run other → behind ≡ other
one_left me peer number g delivered run behind other h k =
    let same : h.found ≡ k.found = reads_only delivered h.found h.texts ∙ sym (reads_only delivered k.found k.texts) in
    one_rest (take run.used k.found.texts) behind other delivered
    (subst (λ (f : StreamTexts). StandBefore (take run.used f.texts) behind delivered) same h.left) k.left

-- ---- from the start

pub some_whole : (side : Side) (me peer : List ℕ) (number : Option ℕ) (delivered : List ℕ) → (behind : List ℕ) × Greets side me peer number delivered (whole_greeting side me peer number delivered) behind
some_whole side me peer number delivered =
    let heard = some_run me peer number (greeting_at_first side) delivered in
    (heard.0, record { heard = greeting_run me peer number (greeting_at_first side) delivered; greets = heard.1; whole = refl })

pub one_whole : (side : Side) (me peer : List ℕ) (number : Option ℕ) (delivered : List ℕ) (run : GreetingRun) (behind : List ℕ) → Greets side me peer number delivered run behind → run ≡ whole_greeting side me peer number delivered
one_whole side me peer number delivered run behind h =
    h.whole ∙ ap (saying_first (first_texts side me)) (one_run me peer number (greeting_at_first side) delivered h.heard behind h.greets)

pub one_left_of_whole : (side : Side) (me peer : List ℕ) (number : Option ℕ) (delivered : List ℕ) (run : GreetingRun) (behind other : List ℕ) → Greets side me peer number delivered run behind → Greets side me peer number delivered run other → behind ≡ other
one_left_of_whole side me peer number delivered run behind other h k =
    let g = greeting_at_first side in
    let same : h.heard ≡ k.heard = one_run me peer number g delivered h.heard behind h.greets ∙ sym (one_run me peer number g delivered k.heard other k.greets) in
    one_left me peer number g delivered k.heard behind other (subst (λ (r : GreetingRun). GreetsBy me peer number g delivered r behind) same h.greets) k.greets
