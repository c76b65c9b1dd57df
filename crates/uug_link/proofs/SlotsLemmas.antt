-- Packets in places that are used in turn.
use Rattle.std.proofs.Common.{◌≡◌, ◌≢◌, ℕ, zero, suc, ◌+◌, ◌-◌, ◌%◌, ◌<◌, ◌≤◌, List, [], ◌∷◌, ◌++◌, ◌⊎◌, Some, inl, inr, length, drop, get_or, set, slice_get, refl, sym, ap, ◌∙◌, arith}
use Rattle.std.proofs.lemmas.List.{get_or-map, get_or-set_same, get_or-set_other, length-map, map-set}
use Rattle.std.proofs.lemmas.Option.{slice_get-get_or}
use Rattle.arrayvec.specs.ArrayVec.{ArrayVec}
use Rattle.uug_link.specs.declared.limits.TheConstants.{UNACKED_MAX}
use Rattle.uug_link.specs.Slots.{AreInUse, bytes_in, in_turn}

-- a place in which nothing is written is as one that is not there
pub places-grow : (ps : List (List ℕ)) (i : ℕ) → get_or (ps ++ [] ∷ []) i [] ≡ get_or ps i []
places-grow [] zero = refl
places-grow [] (suc i) = refl
places-grow (p ∷ ps) zero = refl
places-grow (p ∷ ps) (suc i) = places-grow ps i

-- only what stands in the places in use counts
in_turn-agree : (ps qs : List (List ℕ)) (place n : ℕ)
    → ((j : ℕ) → place ≤ j → j < place + n → get_or ps (j % UNACKED_MAX) [] ≡ get_or qs (j % UNACKED_MAX) [])
    → in_turn ps place n ≡ in_turn qs place n
in_turn-agree ps qs place zero same = refl
in_turn-agree ps qs place (suc n) same =
    let here = same place (omega arith) (omega arith) in
    let there = in_turn-agree ps qs (suc place) n (λ j low high. same j (omega (arith, low)) (omega (arith, high))) in
    rw (here, there) refl

pub in_turn-grow : (ps : List (List ℕ)) (place n : ℕ) → in_turn (ps ++ [] ∷ []) place n ≡ in_turn ps place n
in_turn-grow ps place n = in_turn-agree _ _ place n (λ j low high. places-grow ps (j % UNACKED_MAX))

pub in_turn-round : (ps : List (List ℕ)) (a b n : ℕ) → a % UNACKED_MAX ≡ b % UNACKED_MAX → in_turn ps a n ≡ in_turn ps b n
in_turn-round ps a b zero same = refl
in_turn-round ps a b (suc n) same =
    let there = in_turn-round ps (suc a) (suc b) n (omega (arith, same)) in
    rw (same, there) refl

pub length-in_turn : (ps : List (List ℕ)) (place n : ℕ) → length (in_turn ps place n) ≡ n
length-in_turn ps place zero = refl
length-in_turn ps place (suc n) = ap suc (length-in_turn ps (suc place) n)

-- the oldest are struck
pub in_turn-drop : (ps : List (List ℕ)) (place n k : ℕ) → k ≤ n → drop k (in_turn ps place n) ≡ in_turn ps (place + k) (n - k)
in_turn-drop ps place n zero few =
    let at : place + 0 ≡ place = omega arith in
    let left : n - 0 ≡ n = omega arith in
    rw (at, left) refl
in_turn-drop ps place zero (suc k) few = absurd (omega (arith, few))
in_turn-drop ps place (suc n) (suc k) few =
    let at : suc place + k ≡ place + suc k = omega arith in
    let left : n - k ≡ suc n - suc k = omega arith in
    in_turn-drop ps (suc place) n k (omega (arith, few)) ∙ ap (λ (x : ℕ). in_turn ps x (n - k)) at
    ∙ ap (λ (x : ℕ). in_turn ps (place + suc k) x) left

-- the last stands behind the others
pub in_turn-last : (ps : List (List ℕ)) (place n : ℕ)
    → in_turn ps place (suc n) ≡ in_turn ps place n ++ get_or ps ((place + n) % UNACKED_MAX) [] ∷ []
in_turn-last ps place zero = let at : place ≡ place + 0 = omega arith in ap (λ (x : ℕ). get_or ps (x % UNACKED_MAX) [] ∷ []) at
in_turn-last ps place (suc n) =
    let at : suc place + n ≡ place + suc n = omega arith in
    ap (λ (xs : List (List ℕ)). get_or ps (place % UNACKED_MAX) [] ∷ xs)
    (in_turn-last ps (suc place) n
    ∙ ap (λ (x : ℕ). in_turn ps (suc place) n ++ get_or ps (x % UNACKED_MAX) [] ∷ []) at)

pub in_turn-get : (ps : List (List ℕ)) (place n i : ℕ) → i < n → get_or (in_turn ps place n) i [] ≡ get_or ps ((place + i) % UNACKED_MAX) []
in_turn-get ps place zero i low = absurd (omega (arith, low))
in_turn-get ps place (suc n) zero low = let at : place ≡ place + 0 = omega arith in ap (λ (x : ℕ). get_or ps (x % UNACKED_MAX) []) at
in_turn-get ps place (suc n) (suc i) low =
    let at : suc place + i ≡ place + suc i = omega arith in
    in_turn-get ps (suc place) n i (omega (arith, low)) ∙ ap (λ (x : ℕ). get_or ps (x % UNACKED_MAX) []) at

-- a place that is not in use is written
in_turn-set_other : (ps : List (List ℕ)) (place n i : ℕ) (w : List ℕ)
    → ((j : ℕ) → place ≤ j → j < place + n → j % UNACKED_MAX ≢ i) → in_turn (set ps i w) place n ≡ in_turn ps place n
in_turn-set_other ps place n i w other =
    in_turn-agree _ _ place n (λ j low high. get_or-set_other ps i (j % UNACKED_MAX) w [] (other j low high))

pub in_turn-add : (ps : List (List ℕ)) (place n : ℕ) (w : List ℕ) → n < UNACKED_MAX
    → (place + n) % UNACKED_MAX < length ps
    → in_turn (set ps ((place + n) % UNACKED_MAX) w) place (suc n) ≡ in_turn ps place n ++ w ∷ []
in_turn-add ps place n w few made =
    let at = (place + n) % UNACKED_MAX in
    let last : get_or (set ps at w) at [] ≡ w = get_or-set_same ps at w [] made in
    let others = in_turn-set_other ps place n at w (λ j low high same. omega (arith, low, high, same, few)) in
    in_turn-last (set ps at w) place n ∙ ap (λ (x : List ℕ). in_turn (set ps at w) place n ++ x ∷ []) last
    ∙ ap (λ (xs : List (List ℕ)). xs ++ w ∷ []) others

-- a place in use is written
pub in_turn-set : (ps : List (List ℕ)) (place n i : ℕ) (w : List ℕ) → n ≤ UNACKED_MAX → i < n
    → (place + i) % UNACKED_MAX < length ps
    → in_turn (set ps ((place + i) % UNACKED_MAX) w) place n ≡ set (in_turn ps place n) i w
in_turn-set ps place zero i w few low made = absurd (omega (arith, low))
in_turn-set ps place (suc n) zero w few low made =
    let at : place + 0 ≡ place = omega arith in
    let here : get_or (set ps (place % UNACKED_MAX) w) (place % UNACKED_MAX) [] ≡ w =
    get_or-set_same ps (place % UNACKED_MAX) w [] (omega (arith, made)) in
    let others = in_turn-set_other ps (suc place) n (place % UNACKED_MAX) w
    (λ j low high same. omega (arith, low, high, same, few)) in
    ap (λ (x : ℕ). in_turn (set ps (x % UNACKED_MAX) w) place (suc n)) at
    ∙ ap (λ (x : List ℕ). x ∷ in_turn (set ps (place % UNACKED_MAX) w) (suc place) n) here
    ∙ ap (λ (xs : List (List ℕ)). w ∷ xs) others
in_turn-set ps place (suc n) (suc i) w few low made =
    let at : suc place + i ≡ place + suc i = omega arith in
    let here = get_or-set_other ps ((place + suc i) % UNACKED_MAX) (place % UNACKED_MAX) w []
    (λ same. omega (arith, few, low, same)) in
    let others : in_turn (set ps ((place + suc i) % UNACKED_MAX) w) (suc place) n ≡ set (in_turn ps (suc place) n) i w =
    ap (λ (x : ℕ). in_turn (set ps (x % UNACKED_MAX) w) (suc place) n) (sym at)
    ∙ in_turn-set ps (suc place) n i w (omega (arith, few)) (omega (arith, low)) (omega (arith, made)) in
    ap (λ (x : List ℕ). x ∷ in_turn (set ps ((place + suc i) % UNACKED_MAX) w) (suc place) n) here
    ∙ ap (λ (xs : List (List ℕ)). get_or ps (place % UNACKED_MAX) [] ∷ xs) others

-- ---- the places themselves

length-bytes_in : (places : List (ArrayVec ℕ)) → length (bytes_in places) ≡ length places
length-bytes_in places = length-map places (λ (place : ArrayVec ℕ). place.items)

bytes_in-set : (places : List (ArrayVec ℕ)) (i : ℕ) (place : ArrayVec ℕ)
    → bytes_in (set places i place) ≡ set (bytes_in places) i place.items
bytes_in-set places i place = map-set (λ (place : ArrayVec ℕ). place.items) places i place

-- how many packets there are
pub counted : (places : List (ArrayVec ℕ)) (oldest count : ℕ) (now : List (List ℕ))
    → in_turn (bytes_in places) oldest count ≡ now → length now ≡ count
counted places oldest count now is = ap length (sym is) ∙ length-in_turn (bytes_in places) oldest count

-- the numbers of places in use
pub within_use : (places : List (ArrayVec ℕ)) (oldest count i : ℕ) (now : List (List ℕ))
    → in_turn (bytes_in places) oldest count ≡ now → AreInUse (length places) oldest count → i ≤ length now
    → (oldest < UNACKED_MAX) × (i ≤ UNACKED_MAX)
within_use places oldest count i now is h low =
    (h.oldest_below, omega (arith, low, h.count_below, counted places oldest count now is))

among : (made oldest count i : ℕ) → (made ≡ UNACKED_MAX) ⊎ (oldest + count ≤ made) → i < count
    → (oldest + i) % UNACKED_MAX < made
among made oldest count i (inl all) low = omega (arith, all)
among made oldest count i (inr some) low = omega (arith, some, low)

pub is_made : (places : List (ArrayVec ℕ)) (oldest count i at : ℕ) (now : List (List ℕ))
    → in_turn (bytes_in places) oldest count ≡ now → AreInUse (length places) oldest count → i < length now
    → at ≡ (oldest + i) % UNACKED_MAX → at < length places
is_made places oldest count i at now is h low at_is =
    let few : i < count = omega (arith, low, counted places oldest count now is) in
    omega (arith, at_is, among (length places) oldest count i h.are_made few)

pub standing : (places : List (ArrayVec ℕ)) (oldest count i at : ℕ) (now : List (List ℕ)) (place : ArrayVec ℕ)
    → in_turn (bytes_in places) oldest count ≡ now → i < length now → at ≡ (oldest + i) % UNACKED_MAX
    → at < length places → place ≡ get_or places at place → get_or now i [] ≡ place.items
standing places oldest count i at now place is low at_is made here =
    let few : i < count = omega (arith, low, counted places oldest count now is) in
    let there : get_or (bytes_in places) at [] ≡ place.items =
    get_or-map (λ (place : ArrayVec ℕ). place.items) places at place [] made ∙ ap (λ (p : ArrayVec ℕ). p.items) (sym here) in
    ap (λ (ws : List (List ℕ)). get_or ws i []) (sym is) ∙ in_turn-get (bytes_in places) oldest count i few
    ∙ ap (λ (x : ℕ). get_or (bytes_in places) x []) (sym at_is) ∙ there

pub standing_some : (places : List (ArrayVec ℕ)) (oldest count i at : ℕ) (now : List (List ℕ)) (place : ArrayVec ℕ)
    → in_turn (bytes_in places) oldest count ≡ now → i < length now → at ≡ (oldest + i) % UNACKED_MAX
    → at < length places → place ≡ get_or places at place → slice_get now i ≡ Some place.items
standing_some places oldest count i at now place is low at_is made here =
    slice_get-get_or now i [] low ∙ ap Some (standing places oldest count i at now place is low at_is made here)

-- ---- what the calls leave

pub struck : (places : List (ArrayVec ℕ)) (oldest count k at : ℕ) (now : List (List ℕ))
    → in_turn (bytes_in places) oldest count ≡ now → k ≤ length now → at ≡ (oldest + k) % UNACKED_MAX
    → in_turn (bytes_in places) at (count - k) ≡ drop k now
struck places oldest count k at now is few at_is =
    let most : k ≤ count = omega (arith, few, counted places oldest count now is) in
    in_turn-round (bytes_in places) at (oldest + k) (count - k) (omega (arith, at_is))
    ∙ sym (in_turn-drop (bytes_in places) oldest count k most) ∙ ap (drop k) is

pub struck_in_use : (made oldest count k at : ℕ) → AreInUse made oldest count → k ≤ count
    → at ≡ (oldest + k) % UNACKED_MAX → AreInUse made at (count - k)
struck_in_use made oldest count k at h few is = record {
  oldest_below = omega (arith, is);
  count_below = omega (arith, h.count_below);
  are_made = still h.are_made;
}
  where
    still : (made ≡ UNACKED_MAX) ⊎ (oldest + count ≤ made) → (made ≡ UNACKED_MAX) ⊎ (at + (count - k) ≤ made)
    still (inl all) = inl all
    still (inr some) = inr (omega (arith, some, few, is))

pub added : (places : List (ArrayVec ℕ)) (oldest count at : ℕ) (now : List (List ℕ)) (place : ArrayVec ℕ) (w : List ℕ)
    → in_turn (bytes_in places) oldest count ≡ now → length now < UNACKED_MAX → at ≡ (oldest + count) % UNACKED_MAX
    → at < length places → place.items ≡ w
    → in_turn (bytes_in (set places at place)) oldest (count + 1) ≡ now ++ w ∷ []
added places oldest count at now place w is room at_is made written =
    let few : count < UNACKED_MAX = omega (arith, room, counted places oldest count now is) in
    let more : count + 1 ≡ suc count = omega arith in
    let there : (oldest + count) % UNACKED_MAX < length (bytes_in places) =
    omega (arith, length-bytes_in places, made, at_is) in
    ap (λ (ps : List (List ℕ)). in_turn ps oldest (count + 1)) (bytes_in-set places at place)
    ∙ ap (λ (n : ℕ). in_turn (set (bytes_in places) at place.items) oldest n) more
    ∙ ap (λ (x : List ℕ). in_turn (set (bytes_in places) at x) oldest (suc count)) written
    ∙ ap (λ (x : ℕ). in_turn (set (bytes_in places) x w) oldest (suc count)) at_is
    ∙ in_turn-add (bytes_in places) oldest count w few there
    ∙ ap (λ (ws : List (List ℕ)). ws ++ w ∷ []) is

pub changed : (places : List (ArrayVec ℕ)) (oldest count i at : ℕ) (now : List (List ℕ)) (place : ArrayVec ℕ) (w : List ℕ)
    → in_turn (bytes_in places) oldest count ≡ now → count ≤ UNACKED_MAX → i < length now
    → at ≡ (oldest + i) % UNACKED_MAX → at < length places → place.items ≡ w
    → in_turn (bytes_in (set places at place)) oldest count ≡ set now i w
changed places oldest count i at now place w is most low at_is made written =
    let few : i < count = omega (arith, low, counted places oldest count now is) in
    let there : (oldest + i) % UNACKED_MAX < length (bytes_in places) =
    omega (arith, length-bytes_in places, made, at_is) in
    ap (λ (ps : List (List ℕ)). in_turn ps oldest count) (bytes_in-set places at place)
    ∙ ap (λ (x : List ℕ). in_turn (set (bytes_in places) at x) oldest count) written
    ∙ ap (λ (x : ℕ). in_turn (set (bytes_in places) x w) oldest count) at_is
    ∙ in_turn-set (bytes_in places) oldest count i w most few there
    ∙ ap (λ (ws : List (List ℕ)). set ws i w) is
