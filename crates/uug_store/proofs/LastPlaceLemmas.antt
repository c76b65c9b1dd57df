-- A text that is cut at the last place of a byte, as std cuts it.
use Rattle.std.proofs.Common.{◌≡◌, ◌==◌, ◌≢◌, ℕ, ◌+◌, ◌-◌, ◌<◌, ◌≤◌, suc, zero, Bool, true, false, List, length, take, drop, Option, Some, None, MatchOption, Bor, refl, sym, ap, ◌∙◌, arith}
use Rattle.std.proofs.lemmas.List.{get_or-drop, length-drop}
use Rattle.std.proofs.lemmas.Bool.Decides.{nat_tests}
use Rattle.std.proofs.lemmas.Str.{len_utf8_ascii}
use Rattle.std.proofs.lemmas.Str.Pattern.{NoCharPasses-char}
use Rattle.std.specs.List.{slice_index}
use Rattle.std.specs.Option.{option_map}
use Rattle.std.specs.Path.{rfind_below, rsplit_once}
use Rattle.std.specs.Str.Pattern.{RFindsChar}

none_below : (c : ℕ) (text : List ℕ) (n : ℕ) → ((i : ℕ) → i < n → slice_index text i ≢ c) → rfind_below c text n ≡ None
none_below c text zero h = refl
none_below c text (suc n) h =
    let other : (slice_index text n == c) ≡ false = grind (arith, nat_tests, h n (omega arith)) in
    rw other (none_below c text n (λ i l. h i (omega (arith, l))))

last_below : (c : ℕ) (text : List ℕ) (k n : ℕ) → k < n → slice_index text k ≡ c → ((i : ℕ) → k < i → i < n → slice_index text i ≢ c)
    → rfind_below c text n ≡ Some k
last_below c text k zero l at h = absurd (omega (arith, l))
last_below c text k (suc n) l at h = here (slice_index text n == c) refl (λ more. last_below c text k n more at (λ i a b. h i a (omega (arith, b)))) where
  here : (b : Bool) → (slice_index text n == c) ≡ b → (k < n → rfind_below c text n ≡ Some k) → rfind_below c text (suc n) ≡ Some k
  here true e earlier = rw e (ap Some (same refl)) where
    same : n ≡ n → n ≡ k
    same _ = grind (arith, nat_tests, h n)
  here false e earlier = rw e (earlier (grind (arith, nat_tests)))

-- takes the clause of `rsplit_once` at an ASCII character
pub split_at_last : (c : ℕ) (text : List ℕ) (r : Option (Bor (List ℕ) × Bor (List ℕ)))
    → MatchOption r (RFindsChar c text None) (λ x. (i : ℕ) × (j : ℕ) × RFindsChar c text (Some (i, j)) × (x.0.now ≡ take i text)
    × (x.1.now ≡ drop j text) × (i ≤ j) × (length x.0.now ≡ i) × (length x.1.now + j ≡ length text))
    → c < 128 → option_map (λ x. (x.0.now, x.1.now)) r ≡ rsplit_once c text
unfolding rsplit_once
split_at_last c text None h low =
    sym (ap (option_map (λ i. (take i text, drop (i + 1) text))) (none_below c text (length text) (λ i l. NoCharPasses-char c text i h low l)))
split_at_last c text (Some x) h low =
    let i = h.0 in
    let j = h.1 in
    let next : j ≡ i + 1 = omega (arith, h.2.1.ends, len_utf8_ascii c low) in
    let later : (k : ℕ) → i < k → k < length text → slice_index text k ≢ c = λ k a l e.
    let back : j + (k - j) ≡ k = omega (arith, next, a) in
    NoCharPasses-char c (drop j text) (k - j) h.2.0 low (omega (arith, next, a, l, length-drop j text)) (get_or-drop j text (k - j) 0 ∙ ap (λ n. slice_index text n) back ∙ e) in
    let found = last_below c text i (length text) (omega (arith, next, h.7)) (h.2.1.byte low) later in
    let second = h.4 ∙ ap (λ n. drop n text) next in
    (λ t. Some (h.3 t, second t)) ∙ sym (ap (option_map (λ k. (take k text, drop (k + 1) text))) found)
