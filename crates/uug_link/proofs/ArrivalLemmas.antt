-- Equal packets, and the places at which they are found.
use Rattle.std.proofs.Common.{◌≡◌, ◌≢◌, ℕ, zero, suc, ◌+◌, ◌-◌, ◌<◌, ◌≤◌, ◌==◌, Bool, true, false, ◌&&◌, if◌then◌else◌, List, [], ◌∷◌, ◌++◌, slice_get, Option, Some, None, MatchOption, ◌↔◌, refl, ap, sym, subst, ◌∙◌, arith, true≢false}
use Rattle.std.proofs.lemmas.Bool.{eq-eqb, eqb-true}
use Rattle.std.proofs.lemmas.Option.{none-some, same_Some, slice_get_within}
use Rattle.uug_link.specs.Announced.{Announced}
use Rattle.uug_link.specs.Arrivals.{same_message, same_control, same_packet, IsPlace, one_more, place_of, arrived, repeated_misses, as_happenings}
use Rattle.uug_link.specs.TwoLinks.{End, gone_past, hears, AllMayHappen, after_happenings, Ends, IsRun}
use Rattle.uug_link.proofs.TwoLinksRuns.{IsRun-several}
use Rattle.uug_packet.specs.Packet.{ControlValue, close, rj, srj, rr, init_c, init_b, init_a, PacketValue, control, carry}

-- ---- equal packets

and_true : (a b : Bool) → (a && b) ≡ true → (a ≡ true) × (b ≡ true)
and_true true true h = (refl, refl)
and_true true false h = absurd (true≢false (sym h))
and_true false true h = absurd (true≢false (sym h))
and_true false false h = absurd (true≢false (sym h))

both_true : (a b : Bool) → a ≡ true → b ≡ true → (a && b) ≡ true
both_true true b h k = k
both_true false b h k = h

same_message-true : (xs ys : List ℕ) → same_message xs ys ≡ true → xs ≡ ys
same_message-true [] [] h = refl
same_message-true [] (y ∷ ys) h = absurd (true≢false (sym h))
same_message-true (x ∷ xs) [] h = absurd (true≢false (sym h))
same_message-true (x ∷ xs) (y ∷ ys) h =
    let parts = and_true (x == y) (same_message xs ys) h in
    ap (λ (z : ℕ). z ∷ xs) (eqb-true x y parts.0) ∙ ap (λ (l : List ℕ). y ∷ l) (same_message-true xs ys parts.1)

same_message-self : (xs : List ℕ) → same_message xs xs ≡ true
same_message-self [] = refl
same_message-self (x ∷ xs) = both_true (x == x) (same_message xs xs) (eq-eqb x x refl) (same_message-self xs)

same_control-true : (c d : ControlValue) → same_control c d ≡ true → c ≡ d
same_control-true close close h = refl
same_control-true (rj x) (rj y) h = ap rj (eqb-true x y h)
same_control-true (srj x) (srj y) h = ap srj (eqb-true x y h)
same_control-true (rr x) (rr y) h = ap rr (eqb-true x y h)
same_control-true (init_c x) (init_c y) h = ap init_c (eqb-true x y h)
same_control-true (init_b x) (init_b y) h = ap init_b (eqb-true x y h)
same_control-true (init_a x) (init_a y) h = ap init_a (eqb-true x y h)
same_control-true _ _ h = absurd (true≢false (sym h))

same_control-self : (c : ControlValue) → same_control c c ≡ true
same_control-self close = refl
same_control-self (rj x) = eq-eqb x x refl
same_control-self (srj x) = eq-eqb x x refl
same_control-self (rr x) = eq-eqb x x refl
same_control-self (init_c x) = eq-eqb x x refl
same_control-self (init_b x) = eq-eqb x x refl
same_control-self (init_a x) = eq-eqb x x refl

same_packet-true : (p q : PacketValue) → same_packet p q ≡ true → p ≡ q
same_packet-true (control c) (control d) h = ap control (same_control-true c d h)
same_packet-true (control c) (carry seq ack k message) h = absurd (true≢false (sym h))
same_packet-true (carry seq ack k message) (control d) h = absurd (true≢false (sym h))
same_packet-true (carry seq ack k message) (carry seq' ack' k' message') h =
    let parts = and_true ((seq == seq') && (ack == ack')) ((k == k') && same_message message message') h in
    let numbers = and_true (seq == seq') (ack == ack') parts.0 in
    let rest = and_true (k == k') (same_message message message') parts.1 in
    ap (λ (n : ℕ). carry n ack k message) (eqb-true seq seq' numbers.0)
    ∙ ap (λ (n : ℕ). carry seq' n k message) (eqb-true ack ack' numbers.1)
    ∙ ap (λ (n : ℕ). carry seq' ack' n message) (eqb-true k k' rest.0)
    ∙ ap (λ (l : List ℕ). carry seq' ack' k' l) (same_message-true message message' rest.1)

same_packet-self : (p : PacketValue) → same_packet p p ≡ true
same_packet-self (control c) = same_control-self c
same_packet-self (carry seq ack k message) =
    both_true ((seq == seq) && (ack == ack)) ((k == k) && same_message message message)
    (both_true (seq == seq) (ack == ack) (eq-eqb seq seq refl) (eq-eqb ack ack refl))
    (both_true (k == k) (same_message message message) (eq-eqb k k refl) (same_message-self message))

pub same_is : (p q : PacketValue) → (same_packet p q ≡ true) ↔ (p ≡ q)
same_is p q = (same_packet-true p q, λ is. subst (λ (z : PacketValue). same_packet p z ≡ true) is (same_packet-self p))

-- ---- places

-- one packet further in front
one_more_is : (p q : PacketValue) (qs : List PacketValue) (n n' : ℕ) (o : Option ℕ) →
    ((i : ℕ) → n' ≤ suc i → n ≤ i) → ((i : ℕ) → n ≤ i → n' ≤ suc i) → (n' ≤ zero → q ≢ p) →
    MatchOption o ((i : ℕ) → n ≤ i → slice_get qs i ≢ Some p) (λ i. IsPlace p qs n i) →
    MatchOption (one_more o) ((i : ℕ) → n' ≤ i → slice_get (q ∷ qs) i ≢ Some p) (λ i. IsPlace p (q ∷ qs) n' i)
one_more_is p q qs n n' None down up other h = absent
  where
    absent : (i : ℕ) → n' ≤ i → slice_get (q ∷ qs) i ≢ Some p
    absent zero k at = other k (same_Some q p at)
    absent (suc i) k at = h i (down i k) at
one_more_is p q qs n n' (Some j) down up other h = record {
  behind = up j h.behind;
  there = h.there;
  least = least;
}
  where
    least : (i : ℕ) → n' ≤ i → i < suc j → slice_get (q ∷ qs) i ≢ Some p
    least zero k low at = other k (same_Some q p at)
    least (suc i) k low at = h.least i (down i k) (omega (arith, low)) at

pub place_is : (p : PacketValue) (ps : List PacketValue) (n : ℕ) →
    MatchOption (place_of p ps n) ((i : ℕ) → n ≤ i → slice_get ps i ≢ Some p) (λ i. IsPlace p ps n i)
place_is p [] n = λ i k at. none-some p at
place_is p (q ∷ qs) zero = by (same_packet p q) refl (place_is p qs zero)
  where
    by : (t : Bool) → same_packet p q ≡ t →
        MatchOption (place_of p qs zero) ((i : ℕ) → zero ≤ i → slice_get qs i ≢ Some p) (λ i. IsPlace p qs zero i) →
        MatchOption (if t then Some zero else one_more (place_of p qs zero))
        ((i : ℕ) → zero ≤ i → slice_get (q ∷ qs) i ≢ Some p) (λ i. IsPlace p (q ∷ qs) zero i)
    by true is rest = record {
      behind = omega arith;
      there = ap Some (sym (same_packet-true p q is));
      least = λ i k low. absurd (omega (arith, low));
    }
    by false is rest =
        one_more_is p q qs zero zero (place_of p qs zero) (λ i k. omega arith) (λ i k. omega arith)
        (λ k same. true≢false (sym (subst (λ (z : PacketValue). same_packet p z ≡ true) (sym same) (same_packet-self p)) ∙ is))
        rest
place_is p (q ∷ qs) (suc n) =
    one_more_is p q qs n (suc n) (place_of p qs n) (λ i k. omega (arith, k)) (λ i k. omega (arith, k))
    (λ k same. omega (arith, k)) (place_is p qs n)

-- ---- an arrival is so many misses, and then a hearing

arrives_after : (k : ℕ) (e other : End) (p : PacketValue) (i : ℕ) → e.passed + k ≡ i →
    slice_get other.emitted i ≡ Some p →
    AllMayHappen e other (repeated_misses k ++ hears p ∷ [])
    × (after_happenings e (repeated_misses k ++ hears p ∷ []) ≡ arrived p i e)
arrives_after zero e other p i is at =
    let here : e.passed ≡ i = omega (arith, is) in (
      (subst (λ (n : ℕ). slice_get other.emitted n ≡ Some p) (sym here) at, tt),
      ap (λ (n : ℕ). arrived p n e) here,
    )
arrives_after (suc k) e other p i is at =
    let later = arrives_after k (gone_past e) other p i (omega (arith, is)) at in
    ((omega (arith, is, slice_get_within other.emitted i p at), later.0), later.1)

pub arrival_happens : (e other : End) (p : PacketValue) (i : ℕ) → IsPlace p other.emitted e.passed i →
    AllMayHappen e other (as_happenings p e.passed i)
    × (after_happenings e (as_happenings p e.passed i) ≡ arrived p i e)
arrival_happens e other p i h =
    let behind : e.passed ≤ i = h.behind in
    arrives_after (i - e.passed) e other p i (omega (arith, behind)) h.there

pub arrival_runs : (near far : Announced) (ends : Ends) (p : PacketValue) (i : ℕ) → IsRun near far ends →
    IsPlace p ends.far.emitted ends.near.passed i → IsRun near far (record ends { near = arrived p i ends.near })
arrival_runs near far ends p i run place =
    let happens = arrival_happens ends.near ends.far p i place in
    subst (λ (e : End). IsRun near far (record ends { near = e })) happens.1
    (IsRun-several near far ends (as_happenings p ends.near.passed i) run happens.0)
