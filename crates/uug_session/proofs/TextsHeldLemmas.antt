-- A text that stands first among bytes, and what a search leaves of them.
use Rattle.std.proofs.Common.{◌≡◌, ◌≢◌, ℕ, ◌+◌, ◌-◌, ◌<◌, ◌≤◌, false, List, [], ◌∷◌, ◌++◌, length, take, drop, All, Some, inl, inr, refl, sym, ap, subst, ◌∙◌, append_assoc, arith, length-append, length-take}
use Rattle.std.proofs.lemmas.List.{take-append-drop, drop_at, same_from_push}
use Rattle.std.proofs.lemmas.List.Elements.{All-nil, All-cons, All-head, All-drop, All-take, All-weaker}
use Rattle.std.proofs.Math.Nat.{lt_of_not-le}
use Rattle.std.proofs.Math.Seq.{take-append_seam}
use Rattle.uug_talk.specs.declared.hail.TheConstants.{HAIL_MAX, TEXT_START}
use Rattle.uug_talk.specs.Texts.{IsEnd, IsPlain, Closes, Overflows, IsUnsettled, IsFirstText, Heard, Passing, Open, Whole, Holds, is_whole, waiting_of, hear}
use Rattle.uug_session.specs.TextsHeld.{text_stands, size_of_text, search_heard, search_text, ShowsText, shown_text, held_as, ShowsFirst}

-- ---- a text between its start byte and its end byte

abbrev pub framed : List ℕ → ℕ → List ℕ
framed text last = TEXT_START ∷ text ++ last ∷ []

closes_framed : (stream text : List ℕ) (c : Closes stream text) → stream ≡ c.before ++ framed text c.last
closes_framed stream text c = c.spelled ∙ append_assoc c.before (TEXT_START ∷ text) (c.last ∷ [])

middle_has : (P : ℕ → Type 0) (xs : List ℕ) (y : ℕ) (ys : List ℕ) → All P (xs ++ y ∷ ys) → P y
middle_has P xs y ys h = All-head P y ys (subst (All P) (drop_at xs (y ∷ ys) (length xs) refl) (All-drop P (length xs) (xs ++ y ∷ ys) h))

plain_no_end : (b : ℕ) → IsPlain b → IsEnd b → ⊥
plain_no_end b p (inl e) = p.no_zero e
plain_no_end b p (inr e) = p.no_line_feed e

start_no_end : IsEnd TEXT_START → ⊥
start_no_end (inl e) = absurd (omega (arith, e))
start_no_end (inr e) = absurd (omega (arith, e))

-- a first text passes no limit
text_short : (stream text : List ℕ) → IsFirstText stream text → length text ≤ HAIL_MAX
text_short stream text h =
    let short : length text < HAIL_MAX + 1 = lt_of_not-le {n = HAIL_MAX + 1} {m = length text} (too_many) in
    omega arith where
      front_is : h.front ≡ h.closes.before ++ TEXT_START ∷ text
      front_is = (same_from_push h.front (h.closes.before ++ TEXT_START ∷ text) h.last h.closes.last (sym h.one_more ∙ h.closes.spelled)).0

      too_many : HAIL_MAX + 1 ≤ length text → ⊥
      too_many le =
          let cut : text ≡ take (HAIL_MAX + 1) text ++ drop (HAIL_MAX + 1) text = sym (take-append-drop (HAIL_MAX + 1) text) in
          h.unsettled.in_limit (h.closes.before ++ TEXT_START ∷ take (HAIL_MAX + 1) text) (drop (HAIL_MAX + 1) text)
          (front_is ∙ ap (λ t. h.closes.before ++ TEXT_START ∷ t) cut ∙ sym (append_assoc h.closes.before (TEXT_START ∷ take (HAIL_MAX + 1) text) (drop (HAIL_MAX + 1) text)))
          (record {
            before = h.closes.before;
            text = take (HAIL_MAX + 1) text;
            spelled = refl;
            plain = All-take IsPlain (HAIL_MAX + 1) text h.closes.plain;
            long = omega (arith, length-take (HAIL_MAX + 1) text);
          })

-- the front of a text, from its start byte on, is settled nowhere
front_unsettled : (text : List ℕ) → All IsPlain text → length text ≤ HAIL_MAX → IsUnsettled (TEXT_START ∷ text)
front_unsettled text p l = record { no_text = no_text; in_limit = in_limit } where
  no_end : All (λ b. ¬ IsEnd b) (TEXT_START ∷ text)
  no_end = All-cons (λ b. ¬ IsEnd b) TEXT_START text start_no_end (All-weaker IsPlain (λ b. ¬ IsEnd b) plain_no_end text p)

  no_text : (front rest other : List ℕ) → TEXT_START ∷ text ≡ front ++ rest → ¬ Closes front other
  no_text front rest other e k =
      let spelled : TEXT_START ∷ text ≡ (k.before ++ TEXT_START ∷ other) ++ k.last ∷ rest =
      e ∙ ap (λ z. z ++ rest) k.spelled ∙ simp append_assoc in
      middle_has (λ b. ¬ IsEnd b) (k.before ++ TEXT_START ∷ other) k.last rest (subst (All (λ b. ¬ IsEnd b)) spelled no_end) k.ends

  in_limit : (front rest : List ℕ) → TEXT_START ∷ text ≡ front ++ rest → ¬ Overflows front
  in_limit front rest e k =
      absurd (omega (arith, l, k.long, ap length e, length-append front rest, ap length k.spelled, length-append k.before (TEXT_START ∷ k.text)))

-- a text is the first of the bytes from its start byte on
first_alone : (text : List ℕ) (last : ℕ) → All IsPlain text → length text ≤ HAIL_MAX → IsEnd last → IsFirstText (framed text last) text
first_alone text last p l e = record {
  front = TEXT_START ∷ text;
  last = last;
  one_more = refl;
  unsettled = front_unsettled text p l;
  closes = record { before = []; last = last; spelled = refl; plain = p; ends = e };
}

-- ---- the text that stands first

in_frame : (text rest : List ℕ) (last : ℕ) → take (length text) (drop 1 (framed text last ++ rest)) ≡ text
in_frame text rest last = ap (take (length text)) (append_assoc text (last ∷ []) rest) ∙ take-append_seam text (last ∷ [] ++ rest)

pub the_frame : (text rest : List ℕ) (last : ℕ) → take (length text + 2) (framed text last ++ rest) ≡ framed text last
the_frame text rest last =
    let n : length text + 2 ≡ length (framed text last) = omega (arith, length-append text (last ∷ [])) in
    ap (λ m. take m (framed text last ++ rest)) n ∙ take-append_seam (framed text last) rest

-- bytes with a text in front
pub record StandsAt (text bytes : List ℕ) : Type 0 where
  pub last : ℕ
  pub rest : List ℕ
  pub spelled : bytes ≡ framed text last ++ rest
  pub alone : IsFirstText (framed text last) text

shows_standing : (text bytes : List ℕ) → StandsAt text bytes → ShowsText text (held_as bytes (Some (length text)))
shows_standing text bytes s = subst (λ b. ShowsText text (held_as b (Some (length text)))) (sym s.spelled) (record {
  size = refl;
  within = omega (arith, length-append (framed text s.last) s.rest, length-append text (s.last ∷ []));
  first = subst (λ f. IsFirstText f text) (sym (the_frame text s.rest s.last)) s.alone;
})

text_standing : (text bytes : List ℕ) → StandsAt text bytes → take (length text) (drop 1 bytes) ≡ text
text_standing text bytes s = ap (λ b. take (length text) (drop 1 b)) s.spelled ∙ in_frame text s.rest s.last

-- the bytes up to the end of their first text, and those behind it
pub record CutAtText (bytes text : List ℕ) (used : ℕ) : Type 0 where
  pub passed : List ℕ
  pub last : ℕ
  pub taken : take used bytes ≡ passed ++ framed text last
  pub others : drop (used - size_of_text text) bytes ≡ framed text last ++ drop used bytes
  pub spelled : bytes ≡ passed ++ drop (used - size_of_text text) bytes
  pub size : size_of_text text ≤ used
  pub alone : IsFirstText (framed text last) text

pub cut_at_text : (bytes text : List ℕ) (used : ℕ) → used ≤ length bytes → IsFirstText (take used bytes) text → CutAtText bytes text used
cut_at_text bytes text used within h = record {
  passed = c.before;
  last = c.last;
  taken = taken;
  others = others;
  spelled = spelled ∙ ap (λ z. c.before ++ z) (sym others);
  size = omega (arith, l);
  alone = first_alone text c.last c.plain (text_short (take used bytes) text h) c.ends;
} where
  c : Closes (take used bytes) text
  c = h.closes

  taken : take used bytes ≡ c.before ++ framed text c.last
  taken = closes_framed (take used bytes) text c

  l : used ≡ length c.before + (length text + 2)
  l = omega (arith, within, length-take used bytes, ap length taken, length-append c.before (framed text c.last), length-append text (c.last ∷ []))

  spelled : bytes ≡ c.before ++ (framed text c.last ++ drop used bytes)
  spelled = sym (take-append-drop used bytes) ∙ ap (λ z. z ++ drop used bytes) taken ∙ append_assoc c.before (framed text c.last) (drop used bytes)

  others : drop (used - size_of_text text) bytes ≡ framed text c.last ++ drop used bytes
  others =
      ap (drop (used - size_of_text text)) spelled
      ∙ drop_at c.before (framed text c.last ++ drop used bytes) (used - size_of_text text) (omega (arith, l))

pub cut_stands : (bytes text : List ℕ) (used : ℕ) → CutAtText bytes text used → StandsAt text (drop (used - size_of_text text) bytes)
cut_stands bytes text used c = record { last = c.last; rest = drop used bytes; spelled = c.others; alone = c.alone }

-- it is the text that is shown
pub standing_shown : (text bytes : List ℕ) → StandsAt text bytes → text ≡ shown_text (held_as bytes (Some (length text)))
standing_shown text bytes s =
    let n : length text ≡ length text + 2 - 2 = omega arith in
    sym (text_standing text bytes s) ∙ ap (λ m. take m (drop 1 bytes)) n

shows_first : (text bytes : List ℕ) → StandsAt text bytes → ShowsFirst bytes (Some (length text))
shows_first text bytes s =
    subst (λ t. ShowsText t (held_as bytes (Some (length text)))) (sym (text_standing text bytes s)) (shows_standing text bytes s)

-- ---- what a search finds

pub nothing_heard : (heard : Heard) → heard ≡ Passing → Holds heard []
nothing_heard heard e = subst (λ h. Holds h []) (sym e) (All-nil (λ b. b ≢ TEXT_START))

pub record FoundWhole (bytes text : List ℕ) (used : ℕ) : Type 0 where
  pub size : length text + 2 ≤ used
  pub exact : let others = drop (used - (length text + 2)) bytes in
      search_text bytes ≡ text_stands (shown_text (held_as others (Some (length text)))) others
  pub shows : ShowsFirst (drop (used - (length text + 2)) bytes) (Some (length text))

pub found_whole : (bytes text : List ℕ) (used : ℕ) → used ≤ length bytes → hear Passing bytes ≡ Some (used, Whole text) → IsFirstText (take used bytes) text → FoundWhole bytes text used
found_whole bytes text used within e h =
    let c = cut_at_text bytes text used within h in
    let others = drop (used - (length text + 2)) bytes in
    let stands : StandsAt text others = cut_stands bytes text used c in
    record {
      size = c.size;
      exact = ap (search_heard bytes) e ∙ ap (λ t. text_stands t others) (standing_shown text others stands);
      shows = shows_first text others stands;
    }

-- what waits is short
pub record FoundWaiting (bytes : List ℕ) (used waiting : ℕ) : Type 0 where
  pub within : waiting ≤ used
  pub short : length bytes - (used - waiting) ≤ HAIL_MAX + 1

pub found_waiting : (bytes : List ℕ) (heard : Heard) (used : ℕ) → is_whole heard ≡ false → used ≡ length bytes → Holds heard (take used bytes) → FoundWaiting bytes used (waiting_of heard)
found_waiting bytes Passing used w n h = record { within = omega arith; short = omega (arith, n) }
found_waiting bytes (Open text) used w n h =
    let l : length (take used bytes) ≡ length h.before + length (TEXT_START ∷ text) = ap length h.spelled ∙ length-append h.before (TEXT_START ∷ text) in
    record { within = omega (arith, l, length-take used bytes); short = omega (arith, n, h.short) }
found_waiting bytes (Whole text) used w n h = absurd cc
