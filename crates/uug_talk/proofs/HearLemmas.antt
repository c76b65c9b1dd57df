-- Hearing a piece byte by byte.
use Rattle.std.proofs.Common.{◌≡◌, ℕ, ◌+◌, ◌<◌, ◌≤◌, true, false, List, [], ◌∷◌, length, get_or, drop, Option, Some, None, refl, ap, ◌∙◌, arith}
use Rattle.std.proofs.lemmas.List.{drop_more, drop_all}
use Rattle.std.specs.Prelude.{option_and_then}
use Rattle.uug_talk.specs.Texts.{Heard, is_whole, heard_byte, one_used, used_before, hear}

pub plus_none : (r : Option (ℕ × Heard)) → r ≡ used_before 0 r
plus_none None = refl
plus_none (Some found) = let e : found.0 ≡ 0 + found.0 = omega arith in ap (λ n. Some (n, found.1)) e

plus_more : (n : ℕ) (r : Option (ℕ × Heard)) → used_before n (option_and_then one_used r) ≡ used_before (n + 1) r
plus_more n None = refl
plus_more n (Some found) = let e : n + (1 + found.0) ≡ n + 1 + found.0 = omega arith in ap (λ n. Some (n, found.1)) e

pub hear_whole : (heard : Heard) (bytes : List ℕ) → is_whole heard ≡ true → hear heard bytes ≡ Some (0, heard)
hear_whole heard [] e = refl
hear_whole heard (b ∷ bs) e = rw e refl

pub hear_next : (heard next : Heard) (b : ℕ) (bs : List ℕ) → is_whole heard ≡ false → heard_byte heard b ≡ Some next → hear heard (b ∷ bs) ≡ option_and_then one_used (hear next bs)
hear_next heard next b bs e n = rw (e, n) refl

pub hear_none : (heard : Heard) (b : ℕ) (bs : List ℕ) → is_whole heard ≡ false → heard_byte heard b ≡ None → hear heard (b ∷ bs) ≡ None
hear_none heard b bs e n = rw (e, n) refl

pub hear_step : (start : Option (ℕ × Heard)) (piece : List ℕ) (i : ℕ) (heard next : Heard) → start ≡ used_before i (hear heard (drop i piece)) → i < length piece → is_whole heard ≡ false → heard_byte heard (get_or piece i 0) ≡ Some next → start ≡ used_before (i + 1) (hear next (drop (i + 1) piece))
hear_step start piece i heard next s lt w n =
    s ∙ ap (λ l. used_before i (hear heard l)) (drop_more piece i 0 lt)
    ∙ ap (used_before i) (hear_next heard next (get_or piece i 0) (drop (i + 1) piece) w n)
    ∙ plus_more i (hear next (drop (i + 1) piece))

pub hear_stop : (start : Option (ℕ × Heard)) (piece : List ℕ) (i : ℕ) (heard : Heard) → start ≡ used_before i (hear heard (drop i piece)) → i < length piece → is_whole heard ≡ false → heard_byte heard (get_or piece i 0) ≡ None → start ≡ None
hear_stop start piece i heard s lt w n =
    s ∙ ap (λ l. used_before i (hear heard l)) (drop_more piece i 0 lt)
    ∙ ap (used_before i) (hear_none heard (get_or piece i 0) (drop (i + 1) piece) w n)

used_all : (i : ℕ) (heard : Heard) → used_before i (Some (0, heard)) ≡ Some (i, heard)
used_all i heard = let e : i + 0 ≡ i = omega arith in ap (λ n. Some (n, heard)) e

pub hear_at_whole : (start : Option (ℕ × Heard)) (piece : List ℕ) (i : ℕ) (heard : Heard) → start ≡ used_before i (hear heard (drop i piece)) → is_whole heard ≡ true → start ≡ Some (i, heard)
hear_at_whole start piece i heard s w = s ∙ ap (used_before i) (hear_whole heard (drop i piece) w) ∙ used_all i heard

pub hear_at_end : (start : Option (ℕ × Heard)) (piece : List ℕ) (i : ℕ) (heard : Heard) → start ≡ used_before i (hear heard (drop i piece)) → length piece ≤ i → start ≡ Some (i, heard)
hear_at_end start piece i heard s h = s ∙ ap (λ l. used_before i (hear heard l)) (drop_all i piece h) ∙ used_all i heard
