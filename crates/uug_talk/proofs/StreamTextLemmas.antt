-- A stream has its texts in one way, and they do not depend on the pieces in which it comes.
use Rattle.std.proofs.Common.{◌≡◌, ◌≢◌, ℕ, zero, suc, ◌+◌, ◌<◌, ◌≤◌, Bool, true, false, List, [], ◌∷◌, ◌++◌, length, take, drop, Option, Some, None, refl, sym, ap, subst, ◌∙◌, append_assoc, arith}
use Rattle.std.proofs.lemmas.List.{append-nil, length-drop, take-append-drop, take_all, length-append}
use Rattle.std.proofs.lemmas.List.Elements.{All-nil}
use Rattle.uug_talk.specs.declared.hail.TheConstants.{TEXT_START}
use Rattle.uug_talk.specs.HailCalls.{HailCall, Pushed, Cleared, all_used, all_shown, FindsTooLong, Lead}
use Rattle.uug_talk.specs.StreamTexts.{TextsEnd, Rest, TooLong, StreamTexts, StandBefore, EndsAs, HasTexts, with_text, no_text, texts_behind, texts_heard, texts_up_to, texts_of, continued_by, continued}
use Rattle.uug_talk.specs.Texts.{IsUnsettled, IsFirstText, IsTooLong, Heard, Passing, Open, Whole, Holds, is_whole, left_to_hear, hear}
use Rattle.uug_talk.proofs.FirstTextLemmas.{same_text, text_or_too_long}
use Rattle.uug_talk.proofs.TextLemmas.{unsettled_passing, took, took_too_long, took_of, used_some}

-- One reading.

behind_same : (front behind other : List ℕ) → front ++ behind ≡ front ++ other → behind ≡ other
behind_same [] behind other e = e
behind_same (x ∷ xs) behind other e = behind_same xs behind other (let k : xs ++ behind ≡ xs ++ other = cc in k)

nothing_held : Holds Passing []
nothing_held = All-nil (λ b. b ≢ TEXT_START)

-- what is heard of a stream, and no text is whole
unsettled : (heard : Heard) (stream : List ℕ) → is_whole heard ≡ false → Holds heard stream → IsUnsettled stream
unsettled Passing stream w h = unsettled_passing stream h
unsettled (Open text) stream w h = h.unsettled
unsettled (Whole text) stream w h = absurd cc

-- no text stands where the rest is settled otherwise
ends_before_text : (end : TextsEnd) (stream front behind text : List ℕ) → EndsAs end stream → stream ≡ front ++ behind → IsFirstText front text → ⊥
ends_before_text (Rest bytes) stream front behind text h e f = h.1.no_text front behind text e f.closes
ends_before_text TooLong stream front behind text h e f = text_or_too_long front text behind h.0 h.1 f h.3 (sym e ∙ h.2)

same_end : (a b : TextsEnd) (stream : List ℕ) → EndsAs a stream → EndsAs b stream → a ≡ b
same_end (Rest x) (Rest y) stream h k = ap Rest (sym h.0 ∙ k.0)
same_end (Rest x) TooLong stream h k = absurd (h.1.in_limit k.0 k.1 k.2 k.3.overflows)
same_end TooLong (Rest y) stream h k = absurd (k.1.in_limit h.0 h.1 h.2 h.3.overflows)
same_end TooLong TooLong stream h k = refl

-- the texts and the end, from what stands one after another
same_reading : (ts us : List (List ℕ)) (a b : TextsEnd) (stream rest other : List ℕ) → StandBefore ts rest stream → EndsAs a rest → StandBefore us other stream → EndsAs b other → (ts ≡ us) × (a ≡ b)
same_reading [] [] a b stream rest other h e k f = (refl, same_end a b stream (subst (EndsAs a) (sym h) e) (subst (EndsAs b) (sym k) f))
same_reading [] (u ∷ us) a b stream rest other h e k f = absurd (ends_before_text a stream k.0 k.1 u (subst (EndsAs a) (sym h) e) k.2 k.3)
same_reading (t ∷ ts) [] a b stream rest other h e k f = absurd (ends_before_text b stream h.0 h.1 t (subst (EndsAs b) (sym k) f) h.2 h.3)
same_reading (t ∷ ts) (u ∷ us) a b stream rest other h e k f =
    let first = same_text h.0 t h.1 k.0 u k.1 h.3 k.3 (sym h.2 ∙ k.2) in
    let on : h.1 ≡ k.1 = behind_same h.0 h.1 k.1 (sym h.2 ∙ k.2 ∙ ap (λ z. z ++ k.1) (sym first.0)) in
    let more = same_reading ts us a b h.1 rest other h.4 e (subst (StandBefore us other) (sym on) k.4) f in
    (ap (λ z. z ∷ ts) first.1 ∙ ap (λ z. u ∷ z) more.0, more.1)

pub one_reading : (stream : List ℕ) (found other : StreamTexts) → HasTexts stream found → HasTexts stream other → found ≡ other
one_reading stream found other h k =
    let same = same_reading found.texts other.texts found.end other.end stream h.rest k.rest h.before h.ends k.before k.ends in
    ap (λ ts. record { texts = ts; end = found.end }) same.0 ∙ ap (λ e. record { texts = other.texts; end = e }) same.1

-- What is heard.

-- a text, and then those behind it
one_text_more : (stream front behind text : List ℕ) (found : StreamTexts) → stream ≡ front ++ behind → IsFirstText front text → HasTexts behind found → HasTexts stream (with_text text found)
one_text_more stream front behind text found e f h = record { rest = h.rest; before = (front, behind, e, f, h.before); ends = h.ends }

-- a whole text, with what was heard of it before
whole_heard : (heard : Heard) (before piece text : List ℕ) (used : ℕ) (found : StreamTexts) → Holds heard before → hear heard piece ≡ Some (used, Whole text) → HasTexts (drop used piece) found → HasTexts (before ++ piece) (with_text text found)
whole_heard heard before piece text used found h e k =
    one_text_more (before ++ piece) (before ++ take used piece) (drop used piece) text found
    (ap (λ z. before ++ z) (sym (take-append-drop used piece)) ∙ sym (append_assoc before (take used piece) (drop used piece)))
    (took piece heard (Whole text) before used h e) k

-- no whole text
rest_heard : (heard next : Heard) (before piece : List ℕ) (used : ℕ) → Holds heard before → hear heard piece ≡ Some (used, next) → is_whole next ≡ false → HasTexts (before ++ piece) (no_text (Rest (before ++ piece)))
rest_heard heard next before piece used h e w =
    let all : used ≡ length piece = (took_of piece heard next used e).1 w in
    let holds : Holds next (before ++ piece) =
    subst (λ z. Holds next (before ++ z)) (take_all used piece (omega (arith, all))) (took piece heard next before used h e) in
    record { rest = before ++ piece; before = refl; ends = (refl, unsettled next (before ++ piece) w holds) }

-- a text that is too long
too_long_heard : (stream piece : List ℕ) (n : ℕ) → IsTooLong (stream ++ take n piece) → HasTexts (stream ++ piece) (no_text TooLong)
too_long_heard stream piece n h = record {
  rest = stream ++ piece;
  before = refl;
  ends = (stream ++ take n piece, drop n piece, ap (λ z. stream ++ z) (sym (take-append-drop n piece)) ∙ sym (append_assoc stream (take n piece) (drop n piece)), h);
}

-- The function reads so.

some_bytes : (front text : List ℕ) → IsFirstText front text → 0 < length front
some_bytes front text h = omega (arith, ap length h.one_more, length-append h.front (h.last ∷ []))

nothing : HasTexts [] (no_text (Rest []))
nothing = record { rest = []; before = refl; ends = (refl, unsettled_passing [] nothing_held) }

reads_behind : (n : ℕ) (stream : List ℕ) (used : ℕ) (heard : Heard) → length stream ≤ suc n → ((behind : List ℕ) → length behind ≤ n → HasTexts behind (texts_up_to n behind)) → hear Passing stream ≡ Some (used, heard) → HasTexts stream (texts_behind (texts_up_to n) stream used heard)
reads_behind n stream used Passing l more e = rest_heard Passing Passing [] stream used nothing_held e refl
reads_behind n stream used (Open text) l more e = rest_heard Passing (Open text) [] stream used nothing_held e refl
reads_behind n stream used (Whole text) l more e =
    let some : 0 < length (take used stream) = some_bytes (take used stream) text (took stream Passing (Whole text) [] used nothing_held e) in
    let cut : length (take used stream) + length (drop used stream) ≡ length stream = sym (length-append (take used stream) (drop used stream)) ∙ ap length (take-append-drop used stream) in
    whole_heard Passing [] stream text used (texts_up_to n (drop used stream)) nothing_held e (more (drop used stream) (omega arith))

reads_heard : (n : ℕ) (stream : List ℕ) (heard : Option (ℕ × Heard)) → length stream ≤ suc n → ((behind : List ℕ) → length behind ≤ n → HasTexts behind (texts_up_to n behind)) → hear Passing stream ≡ heard → HasTexts stream (texts_heard (texts_up_to n) stream heard)
reads_heard n stream None l more e = let t = took_too_long stream Passing [] nothing_held e in too_long_heard [] stream t.0 t.2
reads_heard n stream (Some found) l more e = reads_behind n stream found.0 found.1 l more e

reads_up_to : (n : ℕ) (stream : List ℕ) → length stream ≤ n → HasTexts stream (texts_up_to n stream)
reads_up_to zero [] l = nothing
reads_up_to zero (b ∷ bs) l = absurd (omega arith)
reads_up_to (suc n) stream l = reads_heard n stream (hear Passing stream) l (reads_up_to n) refl

pub reads : (stream : List ℕ) → HasTexts stream (texts_of stream)
reads stream = reads_up_to (length stream) stream (omega arith)

pub reads_only : (stream : List ℕ) (found : StreamTexts) → HasTexts stream found → found ≡ texts_of stream
reads_only stream found h = one_reading stream found (texts_of stream) h (reads stream)

pub of_whole : (heard : Heard) (before piece text : List ℕ) (used : ℕ) → Holds heard before → hear heard piece ≡ Some (used, Whole text) → texts_of (before ++ piece) ≡ with_text text (texts_of (drop used piece))
of_whole heard before piece text used h e =
    sym (reads_only (before ++ piece) _ (whole_heard heard before piece text used (texts_of (drop used piece)) h e (reads (drop used piece))))

pub of_rest : (heard next : Heard) (before piece : List ℕ) (used : ℕ) → Holds heard before → hear heard piece ≡ Some (used, next) → is_whole next ≡ false → texts_of (before ++ piece) ≡ no_text (Rest (before ++ piece))
of_rest heard next before piece used h e w = sym (reads_only (before ++ piece) _ (rest_heard heard next before piece used h e w))

pub of_too_long : (heard : Heard) (before piece : List ℕ) → Holds heard before → hear heard piece ≡ None → texts_of (before ++ piece) ≡ no_text TooLong
of_too_long heard before piece h e =
    let t = took_too_long piece heard before h e in
    sym (reads_only (before ++ piece) _ (too_long_heard before piece t.0 t.2))

-- Pieces.

followed : (texts : List (List ℕ)) (rest stream more : List ℕ) (others : List (List ℕ)) (last : List ℕ) → StandBefore texts rest stream → StandBefore others last (rest ++ more) → StandBefore (texts ++ others) last (stream ++ more)
followed [] rest stream more others last h k = subst (λ z. StandBefore others last (z ++ more)) (sym h) k
followed (t ∷ ts) rest stream more others last h k =
    (h.0, h.1 ++ more, ap (λ z. z ++ more) h.2 ∙ append_assoc h.0 h.1 more, h.3, followed ts rest h.1 more others last h.4 k)

pub in_pieces : (stream more : List ℕ) (texts : List (List ℕ)) (rest : List ℕ) (found : StreamTexts) → HasTexts stream (record { texts = texts; end = Rest rest }) → HasTexts (rest ++ more) found → HasTexts (stream ++ more) (record { texts = texts ++ found.texts; end = found.end })
in_pieces stream more texts rest found h k = record {
  rest = k.rest;
  before = followed texts h.rest stream more found.texts k.rest h.before (subst (λ z. StandBefore found.texts k.rest (z ++ more)) (sym h.ends.0) k.before);
  ends = k.ends;
}

pub too_long_for_good : (stream more : List ℕ) (texts : List (List ℕ)) → HasTexts stream (record { texts = texts; end = TooLong }) → HasTexts (stream ++ more) (record { texts = texts; end = TooLong })
too_long_for_good stream more texts h = record {
  rest = h.rest ++ more;
  before = subst (λ ts. StandBefore ts (h.rest ++ more) (stream ++ more)) (append-nil texts) (followed texts h.rest stream more [] (h.rest ++ more) h.before refl);
  ends = (h.ends.0, h.ends.1 ++ more, ap (λ z. z ++ more) h.ends.2 ∙ append_assoc h.ends.0 h.ends.1 more, h.ends.3);
}

continued_of : (stream more : List ℕ) (texts : List (List ℕ)) (end : TextsEnd) → HasTexts stream (record { texts = texts; end = end }) → texts_of (stream ++ more) ≡ continued_by end texts more
continued_of stream more texts (Rest rest) h = sym (reads_only (stream ++ more) _ (in_pieces stream more texts rest (texts_of (rest ++ more)) h (reads (rest ++ more))))
continued_of stream more texts TooLong h = sym (reads_only (stream ++ more) _ (too_long_for_good stream more texts h))

pub of_more : (stream more : List ℕ) → texts_of (stream ++ more) ≡ continued (texts_of stream) more
of_more stream more =
    let h = reads stream in
    continued_of stream more (texts_of stream).texts (texts_of stream).end (record { rest = h.rest; before = h.before; ends = h.ends })

-- Calls.

pub record HasHeard (texts : List (List ℕ)) (heard : Heard) (stream : List ℕ) : Type 0 where
  pub rest : List ℕ
  pub before : StandBefore texts rest stream
  pub holds : Holds heard rest

heard_then : (calls : List HailCall) (old new : Heard) (stream : List ℕ) → Holds old stream → Lead old calls new → HasHeard (all_shown calls) new (stream ++ all_used calls)
heard_then [] old new stream h l = record { rest = stream; before = append-nil stream; holds = subst (λ z. Holds z stream) l h }
heard_then (Pushed piece used ∷ calls) old new stream h l =
    subst (HasHeard (all_shown calls) new) (append_assoc stream (take used piece) (all_used calls))
    (heard_then calls l.0 new (stream ++ take used piece) (l.1 stream h) l.2)
heard_then (Cleared text ∷ calls) old new stream h l =
    let more = heard_then calls Passing new [] nothing_held l.1 in
    record {
      rest = more.rest;
      before = (stream, all_used calls, refl, subst (λ z. Holds z stream) l.0 h, more.before);
      holds = more.holds;
    }

pub calls_rest : (calls : List HailCall) (heard : Heard) → Lead Passing calls heard → is_whole heard ≡ false → (rest : List ℕ) × HasTexts (all_used calls) (record { texts = all_shown calls; end = Rest rest }) × Holds heard rest
calls_rest calls heard l w =
    let h = heard_then calls Passing heard [] nothing_held l in
    (h.rest, record { rest = h.rest; before = h.before; ends = (refl, unsettled heard h.rest w h.holds) }, h.holds)

pub calls_whole : (calls : List HailCall) (text : List ℕ) → Lead Passing calls (Whole text) → HasTexts (all_used calls) (record { texts = all_shown calls ++ text ∷ []; end = Rest [] })
calls_whole calls text l =
    let h = heard_then calls Passing (Whole text) [] nothing_held l in
    record {
      rest = [];
      before = subst (StandBefore (all_shown calls ++ text ∷ []) []) (append-nil (all_used calls))
          (followed (all_shown calls) h.rest (all_used calls) [] (text ∷ []) [] h.before (h.rest, [], refl, h.holds, refl));
      ends = (refl, unsettled_passing [] nothing_held);
    }

pub calls_too_long : (calls : List HailCall) (heard : Heard) (piece : List ℕ) → Lead Passing calls heard → FindsTooLong heard piece → HasTexts (all_used calls ++ piece) (record { texts = all_shown calls; end = TooLong })
calls_too_long calls heard piece l f =
    let h = heard_then calls Passing heard [] nothing_held l in
    let t = f h.rest h.holds in
    let k = too_long_heard h.rest piece t.0 t.2 in
    record {
      rest = k.rest;
      before = subst (λ ts. StandBefore ts k.rest (all_used calls ++ piece)) (append-nil (all_shown calls))
          (followed (all_shown calls) h.rest (all_used calls) piece [] k.rest h.before k.before);
      ends = k.ends;
    }

-- Hearing comes to an end.

pub comes_to_an_end : (heard next : Heard) (bytes : List ℕ) (used : ℕ) → hear heard bytes ≡ Some (used, next) → is_whole next ≡ true → left_to_hear Passing (drop used bytes) < left_to_hear heard bytes
comes_to_an_end heard next bytes used e w = by_stage (is_whole heard) refl (took_of bytes heard next used e).0 where
  by_stage : (b : Bool) → is_whole heard ≡ b → used ≤ length bytes → left_to_hear Passing (drop used bytes) < left_to_hear heard bytes
  by_stage true t h = simp t (omega (arith, length-drop used bytes))
  by_stage false t h = simp t (omega (arith, length-drop used bytes, used_some bytes heard next used e t w))
