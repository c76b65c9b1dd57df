-- Whatever is called, the texts that are dropped are the first of all bytes that are accepted.
use Rattle.std.proofs.Common.{◌≡◌, ◌≢◌, ℕ, ◌-◌, List, [], ◌∷◌, ◌++◌, length, take, drop, Some, refl, sym, ap, subst, ◌∙◌, append_assoc, arith, length-append, length-take}
use Rattle.std.proofs.lemmas.List.{append-nil, take-append-drop, take-append-le}
use Rattle.uug_talk.specs.StreamTexts.{TooLong, StandBefore, texts_of, no_text}
use Rattle.uug_talk.specs.Texts.{IsFirstText, Passing, Whole, hear}
use Rattle.uug_session.specs.TextCalls.{TextCall, pushed, searched, showed, dropped, Makes, Make, all_accepted, all_dropped}
use Rattle.uug_session.specs.TextsFound.{ReadsAs, with_texts, FindsText, Passed, Taken}
use Rattle.uug_session.specs.TextsHeld.{TextsHeld, nothing_held, TextSearch, text_waits, text_stands, text_too_long, size_of_text, search_text, after_text_search, ShowsText, shown_text}
use Rattle.uug_session.proofs.TextSearchLemmas.{reads_with, passed_nothing, passed_same, passed_more, LeavesText, LeavesNone, leaves_as, reads_behind, finds_text, hears_first, text_is_found}
use Rattle.uug_session.proofs.TextsHeldLemmas.{StandsAt, cut_at_text, cut_stands, standing_shown}
use Rattle.uug_talk.proofs.StreamTextLemmas.{reads, reads_only}
use Rattle.uug_talk.proofs.TextLemmas.{took}

-- ---- a text that is shown

shown_length : (text : List ℕ) (held : TextsHeld) → ShowsText text held → length (take held.shown_size held.bytes) ≡ size_of_text text
shown_length text held h = omega (arith, h.size, h.within, length-take held.shown_size held.bytes)

pub shows_shown : (text : List ℕ) (held : TextsHeld) → ShowsText text held → text ≡ shown_text held
shows_shown text held h =
    let c = cut_at_text held.bytes text held.shown_size h.within h.first in
    let n : held.shown_size - size_of_text text ≡ 0 = omega (arith, h.size) in
    let stands : StandsAt text held.bytes = subst (λ m. StandsAt text (drop m held.bytes)) n (cut_stands held.bytes text held.shown_size c) in
    standing_shown text held.bytes stands ∙ ap (λ m. take (m - 2) (drop 1 held.bytes)) (sym h.size)

shows_more : (text more : List ℕ) (held : TextsHeld) → ShowsText text held → ShowsText text (record { bytes = held.bytes ++ more; shown_size = held.shown_size })
shows_more text more held h = record {
  size = h.size;
  within = omega (arith, h.within, length-append held.bytes more);
  first = subst (λ b. IsFirstText b text) (sym (take-append-le held.shown_size held.bytes more h.within)) h.first;
}

-- ---- texts that stand one after another

stand_more : (texts : List (List ℕ)) (rest stream more : List ℕ) → StandBefore texts rest stream → StandBefore texts (rest ++ more) (stream ++ more)
stand_more [] rest stream more h = ap (λ s. s ++ more) h
stand_more (text ∷ texts) rest stream more (front, behind, e, first, later) =
    (front, behind ++ more, ap (λ s. s ++ more) e ∙ append_assoc front behind more, first, stand_more texts rest behind more later)

stand_join : (texts later : List (List ℕ)) (rest middle stream : List ℕ) → StandBefore texts middle stream → StandBefore later rest middle → StandBefore (texts ++ later) rest stream
stand_join [] later rest middle stream h k = subst (λ s. StandBefore later rest s) (sym h) k
stand_join (text ∷ texts) later rest middle stream (front, behind, e, first, more) k = (front, behind, e, first, stand_join texts later rest middle behind more k)

pub taken_right_behind : (texts : List (List ℕ)) (accepted held : List ℕ) → StandBefore texts held accepted → Taken texts accepted held
taken_right_behind texts accepted held h = record { passed = []; stand = h; passes = passed_nothing held }

pub taken_more : (texts : List (List ℕ)) (accepted held more : List ℕ) → Taken texts accepted held → Taken texts (accepted ++ more) (held ++ more)
taken_more texts accepted held more t = record {
  passed = t.passed;
  stand = subst (λ b. StandBefore texts b (accepted ++ more)) (append_assoc t.passed held more) (stand_more texts (t.passed ++ held) accepted more t.stand);
  passes = passed_more t.passed held more t.passes;
}

taken_behind : (texts : List (List ℕ)) (accepted held more others : List ℕ) (t : Taken texts accepted held) → held ≡ more ++ others → Passed (t.passed ++ more) others → Taken texts accepted others
taken_behind texts accepted held more others t e p = record {
  passed = t.passed ++ more;
  stand = subst (λ b. StandBefore texts b accepted) (ap (λ b. t.passed ++ b) e ∙ sym (append_assoc t.passed more others)) t.stand;
  passes = p;
}

pub taken_searched : (texts : List (List ℕ)) (accepted held : List ℕ) (search : TextSearch) → search ≢ text_too_long → search_text held ≡ search → Taken texts accepted held → Taken texts accepted (after_text_search search).bytes
taken_searched texts accepted held (text_waits rest) n e t =
    let l : LeavesNone t.passed held rest = leaves_as t.passed held (text_waits rest) t.passes e in
    taken_behind texts accepted held l.more_passed rest t l.spelled l.passes
taken_searched texts accepted held (text_stands text others) n e t =
    let l : LeavesText t.passed held text others = leaves_as t.passed held (text_stands text others) t.passes e in
    taken_behind texts accepted held l.more_passed others t l.spelled l.passes
taken_searched texts accepted held text_too_long n e t = absurd (n refl)

pub stands_dropped : (texts : List (List ℕ)) (accepted text : List ℕ) (old : TextsHeld) → ShowsText text old → Taken texts accepted old.bytes → StandBefore (texts ++ text ∷ []) (drop old.shown_size old.bytes) accepted
stands_dropped texts accepted text old h t =
    let front = take old.shown_size old.bytes in
    let behind = drop old.shown_size old.bytes in
    let cut : front ++ behind ≡ old.bytes = take-append-drop old.shown_size old.bytes in
    let heard : hear Passing old.bytes ≡ Some (length front, Whole text) = subst (λ b. hear Passing b ≡ Some (length front, Whole text)) cut (hears_first front text behind h.first) in
    let n : length front ≡ old.shown_size = omega (arith, h.within, length-take old.shown_size old.bytes) in
    let first : IsFirstText (t.passed ++ front) text =
    subst (λ m. IsFirstText (t.passed ++ take m old.bytes) text) n
    (took old.bytes t.passes.heard (Whole text) t.passed (length front) t.passes.holds (passed_same t.passed old.bytes t.passes ∙ heard)) in
    stand_join texts (text ∷ []) behind (t.passed ++ old.bytes) accepted t.stand
    (t.passed ++ front, behind, ap (λ b. t.passed ++ b) (sym cut) ∙ sym (append_assoc t.passed front behind), first, refl)

pub first_taken : (texts : List (List ℕ)) (accepted held text others : List ℕ) → Taken texts accepted held → search_text held ≡ text_stands text others → StandBefore (texts ++ text ∷ []) (drop (size_of_text text) others) accepted
first_taken texts accepted held text others t e =
    let f : FindsText held text others = finds_text held text others e in
    stands_dropped texts accepted text (record { bytes = others; shown_size = size_of_text text })
    (record { size = refl; within = f.within; first = f.stands })
    (taken_searched texts accepted held (text_stands text others) (λ no. cc) e t)

taken_by : (calls : List TextCall) (texts : List (List ℕ)) (accepted : List ℕ) (old new : TextsHeld) → Make calls old new → Taken texts accepted old.bytes → Taken (texts ++ all_dropped calls) (accepted ++ all_accepted calls) new.bytes
taken_by [] texts accepted old new m t =
    subst (λ (h : TextsHeld). Taken (texts ++ []) (accepted ++ []) h.bytes) m
    (subst (λ a. Taken (texts ++ []) a old.bytes) (sym (append-nil accepted)) (subst (λ d. Taken d accepted old.bytes) (sym (append-nil texts)) t))
taken_by (pushed more ∷ calls) texts accepted old new m t =
    let here : Taken texts (accepted ++ more) m.0.bytes = subst (Taken texts (accepted ++ more)) (sym m.1.0) (taken_more texts accepted old.bytes more t) in
    subst (λ a. Taken (texts ++ all_dropped calls) a new.bytes) (append_assoc accepted more (all_accepted calls)) (taken_by calls texts (accepted ++ more) m.0 new m.2 here)
taken_by (searched ∷ calls) texts accepted old new m t =
    let here : Taken texts accepted m.0.bytes = subst (λ (h : TextsHeld). Taken texts accepted h.bytes) (sym m.1.1) (taken_searched texts accepted old.bytes (search_text old.bytes) m.1.0 refl t) in
    taken_by calls texts accepted m.0 new m.2 here
taken_by (showed text ∷ calls) texts accepted old new m t =
    taken_by calls texts accepted m.0 new m.2 (subst (λ (h : TextsHeld). Taken texts accepted h.bytes) (sym m.1.0) t)
taken_by (dropped text ∷ calls) texts accepted old new m t =
    let here : Taken (texts ++ text ∷ []) accepted m.0.bytes =
    taken_right_behind (texts ++ text ∷ []) accepted m.0.bytes
    (subst (λ b. StandBefore (texts ++ text ∷ []) b accepted) (sym m.1.2) (stands_dropped texts accepted text old m.1.1 t)) in
    subst (λ d. Taken d (accepted ++ all_accepted calls) new.bytes) (append_assoc texts (text ∷ []) (all_dropped calls)) (taken_by calls (texts ++ text ∷ []) accepted m.0 new m.2 here)

taken : (calls : List TextCall) (now : TextsHeld) → Make calls nothing_held now → Taken (all_dropped calls) (all_accepted calls) now.bytes
taken calls now m = taken_by calls [] [] nothing_held now m (record { passed = []; stand = refl; passes = passed_nothing [] })

-- the texts of what was accepted
texts_behind : (texts : List (List ℕ)) (rest stream : List ℕ) → StandBefore texts rest stream → texts_of stream ≡ with_texts texts (texts_of rest)
texts_behind texts rest stream h =
    let r = reads rest in
    sym (reads_only stream (with_texts texts (texts_of rest)) (record { rest = r.rest; before = stand_join texts (texts_of rest).texts r.rest rest stream h r.before; ends = r.ends }))

pub taken_are_first : (texts : List (List ℕ)) (accepted held : List ℕ) → Taken texts accepted held → ReadsAs (texts_of accepted) (with_texts texts (texts_of held))
taken_are_first texts accepted held t =
    subst (λ f. ReadsAs f (with_texts texts (texts_of held))) (sym (texts_behind texts (t.passed ++ held) accepted t.stand))
    (reads_with texts (texts_of (t.passed ++ held)) (texts_of held) (reads_behind t.passed held t.passes))

pub texts_are_first : (calls : List TextCall) (now : TextsHeld) → Make calls nothing_held now → ReadsAs (texts_of (all_accepted calls)) (with_texts (all_dropped calls) (texts_of now.bytes))
texts_are_first calls now m = taken_are_first (all_dropped calls) (all_accepted calls) now.bytes (taken calls now m)

pub texts_stand : (calls : List TextCall) (now : TextsHeld) → Make calls nothing_held now → (passed : List ℕ) × StandBefore (all_dropped calls) (passed ++ now.bytes) (all_accepted calls)
texts_stand calls now m = let t = taken calls now m in (t.passed, t.stand)

pub behind_is_held : (calls : List TextCall) (text : List ℕ) (old now : TextsHeld) → Make calls nothing_held old → Makes (dropped text) old now → StandBefore (all_dropped calls ++ text ∷ []) now.bytes (all_accepted calls)
behind_is_held calls text old now m d =
    subst (λ b. StandBefore (all_dropped calls ++ text ∷ []) b (all_accepted calls)) (sym d.2)
    (stands_dropped (all_dropped calls) (all_accepted calls) text old d.1 (taken calls old m))

pub taken_too_long : (texts : List (List ℕ)) (accepted held : List ℕ) → Taken texts accepted held → search_text held ≡ text_too_long → texts_of accepted ≡ record { texts = texts; end = TooLong }
taken_too_long texts accepted held t e =
    let long : texts_of (t.passed ++ held) ≡ no_text TooLong = leaves_as t.passed held text_too_long t.passes e in
    texts_behind texts (t.passed ++ held) accepted t.stand
    ∙ ap (with_texts texts) long
    ∙ ap (λ (d : List (List ℕ)). record { texts = d; end = TooLong }) (append-nil texts)

pub no_others : (calls : List TextCall) (now : TextsHeld) → Make calls nothing_held now → search_text now.bytes ≡ text_too_long → texts_of (all_accepted calls) ≡ record { texts = all_dropped calls; end = TooLong }
no_others calls now m = taken_too_long (all_dropped calls) (all_accepted calls) now.bytes (taken calls now m)

-- ---- a text that is shown stays so

pub found_again : (text more : List ℕ) (held : TextsHeld) → ShowsText text held → search_text (held.bytes ++ more) ≡ text_stands text (held.bytes ++ more)
found_again text more held h =
    let front = take held.shown_size held.bytes in
    let cut : front ++ (drop held.shown_size held.bytes ++ more) ≡ held.bytes ++ more =
    sym (append_assoc front (drop held.shown_size held.bytes) more) ∙ ap (λ b. b ++ more) (take-append-drop held.shown_size held.bytes) in
    let none : length front - size_of_text text ≡ 0 = omega (arith, shown_length text held h) in
    subst (λ b. search_text b ≡ text_stands text b) cut
    (text_is_found front text (drop held.shown_size held.bytes ++ more) h.first
    ∙ ap (λ n. text_stands text (drop n (front ++ (drop held.shown_size held.bytes ++ more)))) none)

shows_searched : (text : List ℕ) (old new : TextsHeld) → ShowsText text old → new ≡ after_text_search (search_text old.bytes) → ShowsText text new
shows_searched text old new h e =
    let again : search_text old.bytes ≡ text_stands text old.bytes = subst (λ b. search_text b ≡ text_stands text b) (append-nil old.bytes) (found_again text [] old h) in
    subst (ShowsText text) (sym (e ∙ ap after_text_search again)) (record {
      size = refl;
      within = omega (arith, h.size, h.within);
      first = subst (λ n. IsFirstText (take n old.bytes) text) h.size h.first;
    })

pub shown_stays : (text : List ℕ) (calls : List TextCall) (old new : TextsHeld) → ShowsText text old → Make calls old new → all_dropped calls ≡ [] → ShowsText text new
shown_stays text [] old new h m none = subst (ShowsText text) m h
shown_stays text (pushed more ∷ calls) old new h m none =
    let same : record { bytes = old.bytes ++ more; shown_size = old.shown_size } ≡ m.0 =
    ap (λ (b : List ℕ). record { bytes = b; shown_size = old.shown_size }) (sym m.1.0) ∙ ap (λ (n : ℕ). record { bytes = m.0.bytes; shown_size = n }) (sym m.1.1) in
    let here : ShowsText text m.0 = subst (ShowsText text) same (shows_more text more old h) in
    shown_stays text calls m.0 new here m.2 none
shown_stays text (searched ∷ calls) old new h m none = shown_stays text calls m.0 new (shows_searched text old m.0 h m.1.1) m.2 none
shown_stays text (showed other ∷ calls) old new h m none = shown_stays text calls m.0 new (subst (ShowsText text) (sym m.1.0) h) m.2 none
shown_stays text (dropped other ∷ calls) old new h m none = absurd cc
