-- The lines of a text, one by one.
use Rattle.std.proofs.Common.{◌≡◌, ℕ, suc, ◌+◌, ◌-◌, ◌<◌, ◌≤◌, Bool, true, false, List, [], ◌∷◌, ◌++◌, length, take, drop, refl, sym, ap, ◌∙◌, arith, length-drop}
use Rattle.std.proofs.lemmas.List.{append-nil, drop-drop, take-append-drop, take_rest}
use Rattle.std.proofs.lemmas.List.Splits.{slice_split_first}
use Rattle.std.specs.List.{slice_split, position_or_len}
use Rattle.uug_talk.specs.Lines.{is_line_feed, without_empty_last, lines}

one_more : (n : ℕ) → 1 + n ≡ suc n
one_more n = omega arith

-- a text with no line feed is one part
whole_step : (b : Bool) (x : ℕ) (xs : List ℕ) → is_line_feed x ≡ b → length (drop (position_or_len is_line_feed (x ∷ xs)) (x ∷ xs)) ≡ 0
    → (length (drop (position_or_len is_line_feed xs) xs) ≡ 0 → slice_split is_line_feed xs ≡ xs ∷ [])
    → slice_split is_line_feed (x ∷ xs) ≡ (x ∷ xs) ∷ []
whole_step true x xs e h rest = absurd (let k : length (x ∷ xs) ≡ 0 = simp e at h in omega (arith, k))
whole_step false x xs e h rest = simp (e, rest (simp (e, one_more) at h))

whole : (text : List ℕ) → length (drop (position_or_len is_line_feed text) text) ≡ 0 → slice_split is_line_feed text ≡ text ∷ []
whole [] h = refl
whole (x ∷ xs) h = whole_step (is_line_feed x) x xs refl h (whole xs)

-- the last line of a text may lack its line feed
pub one_line : (text line behind : List ℕ) (n : ℕ) → n ≡ position_or_len is_line_feed text → 0 < length text → line ≡ take n text
    → behind ≡ drop n text → length behind ≡ 0 → lines text ≡ line ∷ lines behind
one_line [] line behind n e some front back none = absurd (omega arith)
one_line (x ∷ xs) line [] n e some front back none =
    let all : line ≡ x ∷ xs = front ∙ sym (append-nil (take n (x ∷ xs))) ∙ ap (λ d. take n (x ∷ xs) ++ d) back ∙ take-append-drop n (x ∷ xs) in
    let no_feed : length (drop (position_or_len is_line_feed (x ∷ xs)) (x ∷ xs)) ≡ 0 = ap length (sym (back ∙ ap (λ i. drop i (x ∷ xs)) e)) in
    ap without_empty_last (whole (x ∷ xs) no_feed) ∙ ap (λ l. l ∷ []) (sym all)
one_line (x ∷ xs) line (y ∷ ys) n e some front back none = absurd (omega arith)

parts_not_empty : (text : List ℕ) → (part : List ℕ) × (parts : List (List ℕ)) × (slice_split is_line_feed text ≡ part ∷ parts)
parts_not_empty [] = ([], [], refl)
parts_not_empty (x ∷ xs) = step (is_line_feed x) refl (parts_not_empty xs) where
  step : (b : Bool) → is_line_feed x ≡ b → ((part : List ℕ) × (parts : List (List ℕ)) × (slice_split is_line_feed xs ≡ part ∷ parts))
      → (part : List ℕ) × (parts : List (List ℕ)) × (slice_split is_line_feed (x ∷ xs) ≡ part ∷ parts)
  step true e p = ([], slice_split is_line_feed xs, simp e)
  step false e p = (x ∷ p.0, p.1, simp (e, p.2))

-- only the last part may be no line
not_last : (line part : List ℕ) (parts : List (List ℕ)) → without_empty_last (line ∷ part ∷ parts) ≡ line ∷ without_empty_last (part ∷ parts)
not_last [] part parts = refl
not_last (x ∷ xs) part parts = refl

pub line_in_front : (line rest : List ℕ) → without_empty_last (line ∷ slice_split is_line_feed rest) ≡ line ∷ lines rest
line_in_front line rest =
    let p = parts_not_empty rest in
    ap (λ parts. without_empty_last (line ∷ parts)) p.2 ∙ not_last line p.0 p.1 ∙ ap (λ parts. line ∷ without_empty_last parts) (sym p.2)

-- a line feed ends the first line
pub first_line : (text line behind rest : List ℕ) (n : ℕ) → n ≡ position_or_len is_line_feed text → line ≡ take n text
    → behind ≡ drop n text → 1 ≤ length behind → rest ≡ take (length behind - 1) (drop 1 behind) → lines text ≡ line ∷ lines rest
first_line text line behind rest n e front back some rest_is =
    let within : position_or_len is_line_feed text < length text = omega (arith, length-drop n text, ap length back) in
    let line_is : take (position_or_len is_line_feed text) text ≡ line = sym (front ∙ ap (λ i. take i text) e) in
    let after : drop (position_or_len is_line_feed text + 1) text ≡ rest =
    ap (λ i. drop (i + 1) text) (sym e) ∙ sym (drop-drop 1 n text) ∙ ap (drop 1) (sym back) ∙ sym (rest_is ∙ take_rest behind 1) in
    ap without_empty_last (slice_split_first is_line_feed text 0 within)
    ∙ line_in_front (take (position_or_len is_line_feed text) text) (drop (position_or_len is_line_feed text + 1) text)
    ∙ ap (λ l. l ∷ lines (drop (position_or_len is_line_feed text + 1) text)) line_is
    ∙ ap (λ r. line ∷ lines r) after
