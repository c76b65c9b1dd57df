-- What a search leaves goes on as the stream does, and the texts that are taken are its first.
use Rattle.std.proofs.Common.{◌≡◌, ◌≢◌, ℕ, ◌-◌, ◌≤◌, false, List, [], ◌∷◌, ◌++◌, length, take, drop, Option, Some, None, refl, sym, ap, subst, ◌∙◌, append_assoc, arith, length-append, length-drop}
use Rattle.std.proofs.lemmas.List.{append-nil, drop_at, take_all, same_from_push}
use Rattle.std.proofs.lemmas.List.Elements.{All-nil}
use Rattle.uug_talk.specs.StreamTexts.{StreamTexts, TextsEnd, Rest, TooLong, StandBefore, EndsAs, HasTexts, texts_of, with_text, no_text}
use Rattle.uug_talk.specs.Texts.{IsUnsettled, IsFirstText, Heard, Passing, Open, Whole, Holds, is_whole, waiting_of, hear}
use Rattle.uug_talk.specs.declared.hail.TheConstants.{TEXT_START}
use Rattle.uug_session.specs.TextsFound.{EndsBehind, ReadsAs, with_texts, FindsText, FindsNone, Passed}
use Rattle.uug_session.specs.TextsHeld.{TextSearch, text_waits, text_stands, text_too_long, size_of_text, search_heard, search_text}
use Rattle.uug_session.proofs.TextsHeldLemmas.{framed, CutAtText, cut_at_text, the_frame}
use Rattle.uug_talk.proofs.StreamTextLemmas.{reads, reads_only, of_whole, of_rest, of_too_long}
use Rattle.uug_talk.proofs.TextLemmas.{took, took_of, stays_whole}

-- ---- readings

reads_itself : (found : StreamTexts) → ReadsAs found found
reads_itself found = record { texts = refl; end = same found.end } where
  same : (end : TextsEnd) → EndsBehind end end
  same (Rest bytes) = ([], refl)
  same TooLong = tt

reads_of : (found left x y : StreamTexts) → found ≡ x → left ≡ y → ReadsAs x y → ReadsAs found left
reads_of found left x y e f r = subst (λ z. ReadsAs z left) (sym e) (subst (ReadsAs x) (sym f) r)

pub reads_with : (texts : List (List ℕ)) (found left : StreamTexts) → ReadsAs found left → ReadsAs (with_texts texts found) (with_texts texts left)
reads_with texts found left r = record { texts = ap (λ t. texts ++ t) r.texts; end = r.end }

-- ---- what is settled nowhere

unsettled_front : (front rest : List ℕ) → IsUnsettled (front ++ rest) → IsUnsettled front
unsettled_front front rest u = record {
  no_text = λ a b text e. u.no_text a (b ++ rest) text (ap (λ z. z ++ rest) e ∙ append_assoc a b rest);
  in_limit = λ a b e. u.in_limit a (b ++ rest) (ap (λ z. z ++ rest) e ∙ append_assoc a b rest);
}

-- what stands in front of a first text
unsettled_before : (passed text : List ℕ) (last : ℕ) → IsFirstText (passed ++ framed text last) text → IsUnsettled passed
unsettled_before passed text last h =
    let front : h.front ≡ passed ++ TEXT_START ∷ text =
    (same_from_push h.front (passed ++ TEXT_START ∷ text) h.last last (sym h.one_more ∙ sym (append_assoc passed (TEXT_START ∷ text) (last ∷ [])))).0 in
    unsettled_front passed (TEXT_START ∷ text) (subst IsUnsettled front h.unsettled)

-- ---- what was skipped

nothing_heard : Holds Passing []
nothing_heard = All-nil (λ b. b ≢ TEXT_START)

pub passed_nothing : (held : List ℕ) → Passed [] held
passed_nothing held = record { heard = Passing; holds = nothing_heard; same = λ more. refl }

pub passed_same : (passed held : List ℕ) (p : Passed passed held) → hear p.heard held ≡ hear Passing held
passed_same passed held p = subst (λ h. hear p.heard h ≡ hear Passing h) (append-nil held) (p.same [])

pub passed_more : (passed held more : List ℕ) → Passed passed held → Passed passed (held ++ more)
passed_more passed held more p = record {
  heard = p.heard;
  holds = p.holds;
  same = λ last. subst (λ h. hear p.heard h ≡ hear Passing h) (sym (append_assoc held more last)) (p.same (more ++ last));
}

-- a start byte begins anew
begins_anew : (heard : Heard) (rest : List ℕ) → is_whole heard ≡ false → hear heard (TEXT_START ∷ rest) ≡ hear Passing (TEXT_START ∷ rest)
begins_anew Passing rest w = refl
begins_anew (Open text) rest w = refl
begins_anew (Whole text) rest w = absurd cc

-- ---- what a search leaves behind what was skipped

pub record LeavesText (passed held text others : List ℕ) : Type 0 where
  pub more_passed : List ℕ
  pub spelled : held ≡ more_passed ++ others
  pub passes : Passed (passed ++ more_passed) others
  pub within : size_of_text text ≤ length others
  pub stands : IsFirstText (take (size_of_text text) others) text
  pub first : IsFirstText ((passed ++ more_passed) ++ take (size_of_text text) others) text
  pub texts : texts_of (passed ++ held) ≡ with_text text (texts_of (drop (size_of_text text) others))

pub record LeavesNone (passed held rest : List ℕ) : Type 0 where
  pub more_passed : List ℕ
  pub spelled : held ≡ more_passed ++ rest
  pub passes : Passed (passed ++ more_passed) rest
  pub none : texts_of (passed ++ held) ≡ no_text (Rest (passed ++ held))

abbrev pub Leaves : List ℕ → List ℕ → TextSearch → Type 0
Leaves passed held (text_waits rest) = LeavesNone passed held rest
Leaves passed held (text_stands text others) = LeavesText passed held text others
Leaves passed held text_too_long = texts_of (passed ++ held) ≡ no_text TooLong

heard_at : (o : Option (ℕ × Heard)) (used n : ℕ) (found text : List ℕ) → o ≡ Some (used, Whole found) → used ≡ n → found ≡ text → o ≡ Some (n, Whole text)
heard_at o used n found text e at same = e ∙ ap (λ m. Some (m, Whole found)) at ∙ ap (λ t. Some (n, Whole t)) same

no_bytes : (bytes : List ℕ) (found : StreamTexts) → found.texts ≡ [] → found.end ≡ Rest [] → HasTexts bytes found → bytes ≡ []
no_bytes bytes found none rest h =
    let ends : EndsAs (Rest []) h.rest = subst (λ end. EndsAs end h.rest) rest h.ends in
    subst (λ texts. StandBefore texts h.rest bytes) none h.before ∙ ends.0

-- what is heard of bytes that are settled nowhere
record HearsUnsettled (bytes : List ℕ) : Type 0 where
  heard : Heard
  partial : is_whole heard ≡ false
  holds : Holds heard bytes

hears_all : (bytes : List ℕ) (used : ℕ) (heard : Heard) → is_whole heard ≡ false → hear Passing bytes ≡ Some (used, heard) → HearsUnsettled bytes
hears_all bytes used heard w e =
    let all : used ≡ length bytes = (took_of bytes Passing heard used e).1 w in
    record {
      heard = heard;
      partial = w;
      holds = subst (Holds heard) (take_all used bytes (omega (arith, all))) (took bytes Passing heard [] used nothing_heard e);
    }

hears_unsettled : (bytes : List ℕ) → IsUnsettled bytes → HearsUnsettled bytes
hears_unsettled bytes u = by_heard (hear Passing bytes) refl where
  rest : no_text (Rest bytes) ≡ texts_of bytes
  rest = reads_only bytes (no_text (Rest bytes)) (record { rest = bytes; before = refl; ends = (refl, u) })

  by_heard : (o : Option (ℕ × Heard)) → hear Passing bytes ≡ o → HearsUnsettled bytes
  by_heard None e = absurd (let k : Rest bytes ≡ TooLong = ap (λ (f : StreamTexts). f.end) (rest ∙ of_too_long Passing [] bytes nothing_heard e) in cc)
  by_heard (Some (used, Passing)) e = hears_all bytes used Passing refl e
  by_heard (Some (used, Open text)) e = hears_all bytes used (Open text) refl e
  by_heard (Some (used, Whole text)) e =
      absurd (let k : [] ≡ text ∷ (texts_of (drop used bytes)).texts = ap (λ (f : StreamTexts). f.texts) (rest ∙ of_whole Passing [] bytes text used nothing_heard e) in cc)

passed_before : (passed held rest : List ℕ) → IsUnsettled passed → held ≡ TEXT_START ∷ rest → Passed passed held
passed_before passed held rest u e =
    let h = hears_unsettled passed u in
    record {
      heard = h.heard;
      holds = h.holds;
      same = λ more. subst (λ b. hear h.heard (b ++ more) ≡ hear Passing (b ++ more)) (sym e) (begins_anew h.heard (rest ++ more) h.partial);
    }

-- the texts are those of what is held
pub reads_behind : (passed held : List ℕ) → Passed passed held → ReadsAs (texts_of (passed ++ held)) (texts_of held)
reads_behind passed held p = by_heard (hear Passing held) refl where
  no_more : (used : ℕ) (heard : Heard) → is_whole heard ≡ false → hear Passing held ≡ Some (used, heard) → ReadsAs (texts_of (passed ++ held)) (texts_of held)
  no_more used heard w e =
      reads_of (texts_of (passed ++ held)) (texts_of held) (no_text (Rest (passed ++ held))) (no_text (Rest held))
      (of_rest p.heard heard passed held used p.holds (passed_same passed held p ∙ e) w) (of_rest Passing heard [] held used nothing_heard e w)
      (record { texts = refl; end = (passed, refl) })

  by_heard : (o : Option (ℕ × Heard)) → hear Passing held ≡ o → ReadsAs (texts_of (passed ++ held)) (texts_of held)
  by_heard None e =
      reads_of (texts_of (passed ++ held)) (texts_of held) (no_text TooLong) (no_text TooLong)
      (of_too_long p.heard passed held p.holds (passed_same passed held p ∙ e)) (of_too_long Passing [] held nothing_heard e)
      (reads_itself (no_text TooLong))
  by_heard (Some (used, Passing)) e = no_more used Passing refl e
  by_heard (Some (used, Open text)) e = no_more used (Open text) refl e
  by_heard (Some (used, Whole text)) e =
      let behind = with_text text (texts_of (drop used held)) in
      reads_of (texts_of (passed ++ held)) (texts_of held) behind behind
      (of_whole p.heard passed held text used p.holds (passed_same passed held p ∙ e)) (of_whole Passing [] held text used nothing_heard e)
      (reads_itself behind)

-- ---- a search

leaves_text : (passed held text : List ℕ) (used : ℕ) → Passed passed held → hear Passing held ≡ Some (used, Whole text) → LeavesText passed held text (drop (used - size_of_text text) held)
leaves_text passed held text used p e = record {
  more_passed = c.passed;
  spelled = c.spelled;
  passes = passed_before (passed ++ c.passed) others (text ++ c.last ∷ [] ++ drop used held) (unsettled_before (passed ++ c.passed) text c.last first) (c.others ∙ simp append_assoc);
  within = omega (arith, ap length c.others, length-append (framed text c.last) (drop used held), length-append text (c.last ∷ []));
  stands = subst (λ b. IsFirstText b text) (sym frame) c.alone;
  first = subst (λ b. IsFirstText ((passed ++ c.passed) ++ b) text) (sym frame) first;
  texts = of_whole p.heard passed held text used p.holds there ∙ ap (λ b. with_text text (texts_of b)) (sym behind);
} where
  others : List ℕ
  others = drop (used - size_of_text text) held

  there : hear p.heard held ≡ Some (used, Whole text)
  there = passed_same passed held p ∙ e

  c : CutAtText held text used
  c = cut_at_text held text used (took_of held Passing (Whole text) used e).0 (took held Passing (Whole text) [] used nothing_heard e)

  first : IsFirstText ((passed ++ c.passed) ++ framed text c.last) text
  first = subst (λ b. IsFirstText b text) (ap (λ b. passed ++ b) c.taken ∙ sym (append_assoc passed c.passed (framed text c.last)))
      (took held p.heard (Whole text) passed used p.holds there)

  frame : take (size_of_text text) others ≡ framed text c.last
  frame = ap (take (size_of_text text)) c.others ∙ the_frame text (drop used held) c.last

  behind : drop (size_of_text text) others ≡ drop used held
  behind = ap (drop (size_of_text text)) c.others
      ∙ drop_at (framed text c.last) (drop used held) (size_of_text text) (omega (arith, length-append text (c.last ∷ [])))

leaves_open : (passed held text : List ℕ) (used : ℕ) → Passed passed held → hear Passing held ≡ Some (used, Open text) → LeavesNone passed held (drop (used - waiting_of (Open text)) held)
leaves_open passed held text used p e = record {
  more_passed = h.before;
  spelled = h.spelled ∙ ap (λ b. h.before ++ b) (sym rest);
  passes = passed_before (passed ++ h.before) (drop (used - waiting_of (Open text)) held) text
      (unsettled_front (passed ++ h.before) (TEXT_START ∷ text) (subst IsUnsettled (ap (λ b. passed ++ b) h.spelled ∙ sym (append_assoc passed h.before (TEXT_START ∷ text))) k.unsettled)) rest;
  none = of_rest p.heard (Open text) passed held used p.holds there refl;
} where
  there : hear p.heard held ≡ Some (used, Open text)
  there = passed_same passed held p ∙ e

  all : used ≡ length held
  all = (took_of held Passing (Open text) used e).1 refl

  whole : take used held ≡ held
  whole = take_all used held (omega (arith, all))

  h : Holds (Open text) held
  h = subst (Holds (Open text)) whole (took held Passing (Open text) [] used nothing_heard e)

  k : Holds (Open text) (passed ++ held)
  k = subst (λ b. Holds (Open text) (passed ++ b)) whole (took held p.heard (Open text) passed used p.holds there)

  rest : drop (used - waiting_of (Open text)) held ≡ TEXT_START ∷ text
  rest = ap (drop (used - waiting_of (Open text))) h.spelled
      ∙ drop_at h.before (TEXT_START ∷ text) (used - waiting_of (Open text)) (omega (arith, all, ap length h.spelled, length-append h.before (TEXT_START ∷ text)))

leaves_nothing : (passed held : List ℕ) (used : ℕ) → Passed passed held → hear Passing held ≡ Some (used, Passing) → LeavesNone passed held []
leaves_nothing passed held used p e =
    let there : hear p.heard held ≡ Some (used, Passing) = passed_same passed held p ∙ e in
    let all : used ≡ length held = (took_of held Passing Passing used e).1 refl in
    record {
      more_passed = held;
      spelled = sym (append-nil held);
      passes = record {
        heard = Passing;
        holds = subst (λ b. Holds Passing (passed ++ b)) (take_all used held (omega (arith, all))) (took held p.heard Passing passed used p.holds there);
        same = λ more. refl;
      };
      none = of_rest p.heard Passing passed held used p.holds there refl;
    }

pub leaves : (passed held : List ℕ) → Passed passed held → Leaves passed held (search_text held)
leaves passed held p = by_heard (hear Passing held) refl where
  by_heard : (o : Option (ℕ × Heard)) → hear Passing held ≡ o → Leaves passed held (search_heard held o)
  by_heard None e = of_too_long p.heard passed held p.holds (passed_same passed held p ∙ e)
  by_heard (Some (used, Passing)) e = leaves_nothing passed held used p e
  by_heard (Some (used, Open text)) e = leaves_open passed held text used p e
  by_heard (Some (used, Whole text)) e = leaves_text passed held text used p e

pub leaves_as : (passed held : List ℕ) (search : TextSearch) → Passed passed held → search_text held ≡ search → Leaves passed held search
leaves_as passed held search p e = subst (Leaves passed held) e (leaves passed held p)

-- ---- what a search finds

pub finds_text : (stream text others : List ℕ) → search_text stream ≡ text_stands text others → FindsText stream text others
finds_text stream text others e =
    let l : LeavesText [] stream text others = leaves_as [] stream (text_stands text others) (passed_nothing stream) e in
    record { passed = l.more_passed; spelled = l.spelled; within = l.within; stands = l.stands; first = l.first; texts = l.texts }

pub finds_none : (stream rest : List ℕ) → search_text stream ≡ text_waits rest → FindsNone stream rest
finds_none stream rest e =
    let l : LeavesNone [] stream rest = leaves_as [] stream (text_waits rest) (passed_nothing stream) e in
    record {
      passed = l.more_passed;
      spelled = l.spelled;
      none = l.none;
      goes_on = λ more.
          subst (λ b. ReadsAs (texts_of b) (texts_of (rest ++ more))) (sym (append_assoc l.more_passed rest more) ∙ ap (λ b. b ++ more) (sym l.spelled))
          (reads_behind l.more_passed (rest ++ more) (passed_more l.more_passed rest more l.passes));
    }

pub finds_too_long : (stream : List ℕ) → search_text stream ≡ text_too_long → texts_of stream ≡ no_text TooLong
finds_too_long stream e = leaves_as [] stream text_too_long (passed_nothing stream) e

-- ---- and each that is there is found

pub none_is_found : (stream : List ℕ) → texts_of stream ≡ no_text (Rest stream) → (rest : List ℕ) × (search_text stream ≡ text_waits rest)
none_is_found stream none = by_search (search_text stream) refl where
  by_search : (search : TextSearch) → search_text stream ≡ search → (rest : List ℕ) × (search_text stream ≡ text_waits rest)
  by_search (text_waits rest) e = (rest, e)
  by_search (text_stands text others) e =
      absurd (let k : [] ≡ text ∷ (texts_of (drop (size_of_text text) others)).texts = ap (λ (f : StreamTexts). f.texts) (sym none ∙ (finds_text stream text others e).texts) in cc)
  by_search text_too_long e = absurd (let k : Rest stream ≡ TooLong = ap (λ (f : StreamTexts). f.end) (sym none ∙ finds_too_long stream e) in cc)

pub too_long_is_found : (stream : List ℕ) → texts_of stream ≡ no_text TooLong → search_text stream ≡ text_too_long
too_long_is_found stream long = by_search (search_text stream) refl where
  by_search : (search : TextSearch) → search_text stream ≡ search → search_text stream ≡ text_too_long
  by_search (text_waits rest) e = absurd (let k : TooLong ≡ Rest stream = ap (λ (f : StreamTexts). f.end) (sym long ∙ (finds_none stream rest e).none) in cc)
  by_search (text_stands text others) e =
      absurd (let k : [] ≡ text ∷ (texts_of (drop (size_of_text text) others)).texts = ap (λ (f : StreamTexts). f.texts) (sym long ∙ (finds_text stream text others e).texts) in cc)
  by_search text_too_long e = e

-- what is heard up to a first text
pub hears_first : (front text more : List ℕ) → IsFirstText front text → hear Passing (front ++ more) ≡ Some (length front, Whole text)
hears_first front text more h = stays_whole front more Passing (Whole text) (length front) (by_heard (hear Passing front) refl) refl where
  empty : HasTexts [] (no_text (Rest []))
  empty = reads []

  alone : with_text text (no_text (Rest [])) ≡ texts_of front
  alone = reads_only front (with_text text (no_text (Rest [])))
      (record { rest = []; before = (front, [], sym (append-nil front), h, refl); ends = (refl, subst IsUnsettled empty.ends.0 empty.ends.1) })

  no_more : (used : ℕ) (found : List ℕ) → hear Passing front ≡ Some (used, Whole found) → hear Passing front ≡ Some (length front, Whole text)
  no_more used found e =
      let both : with_text text (no_text (Rest [])) ≡ with_text found (texts_of (drop used front)) = alone ∙ of_whole Passing [] front found used nothing_heard e in
      let texts : text ∷ [] ≡ found ∷ (texts_of (drop used front)).texts = ap (λ (f : StreamTexts). f.texts) both in
      let same : found ≡ text = cc in
      let none : (texts_of (drop used front)).texts ≡ [] = cc in
      let rest : (texts_of (drop used front)).end ≡ Rest [] = sym (ap (λ (f : StreamTexts). f.end) both) in
      let behind : drop used front ≡ [] = no_bytes (drop used front) (texts_of (drop used front)) none rest (reads (drop used front)) in
      let all : used ≡ length front = omega (arith, ap length behind, length-drop used front, (took_of front Passing (Whole found) used e).0) in
      heard_at (hear Passing front) used (length front) found text e all same

  by_heard : (o : Option (ℕ × Heard)) → hear Passing front ≡ o → hear Passing front ≡ Some (length front, Whole text)
  by_heard None e = absurd (let k : text ∷ [] ≡ [] = ap (λ (f : StreamTexts). f.texts) (alone ∙ of_too_long Passing [] front nothing_heard e) in cc)
  by_heard (Some (used, Passing)) e = absurd (let k : text ∷ [] ≡ [] = ap (λ (f : StreamTexts). f.texts) (alone ∙ of_rest Passing Passing [] front used nothing_heard e refl) in cc)
  by_heard (Some (used, Open found)) e = absurd (let k : text ∷ [] ≡ [] = ap (λ (f : StreamTexts). f.texts) (alone ∙ of_rest Passing (Open found) [] front used nothing_heard e refl) in cc)
  by_heard (Some (used, Whole found)) e = no_more used found e

pub text_is_found : (front text behind : List ℕ) → IsFirstText front text → search_text (front ++ behind) ≡ text_stands text (drop (length front - size_of_text text) (front ++ behind))
text_is_found front text behind h = ap (search_heard (front ++ behind)) (hears_first front text behind h)
