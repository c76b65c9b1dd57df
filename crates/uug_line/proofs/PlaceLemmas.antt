-- The places of the packets that an end finds: the least ones do where any do.
use Rattle.std.proofs.Common.{◌≡◌, ◌≢◌, ◌↔◌, ◌⊎◌, inl, inr, ℕ, zero, suc, ◌<◌, ◌≤◌, List, [], ◌∷◌, ◌++◌, length, slice_get, Option, Some, None, MatchOption, refl, sym, subst, ◌∙◌, arith}
use Rattle.std.proofs.lemmas.Bool.{cases_lt}
use Rattle.std.proofs.lemmas.Option.{slice_get_within}
use Rattle.uug_link.specs.Arrivals.{IsPlace, place_of}
use Rattle.uug_packet.specs.Packet.{PacketValue}
use Rattle.uug_line.specs.WereSent.{StandAt, WereSent, HavePlaces, passed_at}
use Rattle.uug_link.proofs.ArrivalLemmas.{place_is}

-- ---- the least places are such places

pub places_stand : (found emitted : List PacketValue) (places : List ℕ) (from : ℕ) →
    HavePlaces found places emitted from → StandAt found places emitted from
places_stand [] emitted [] from h = tt
places_stand [] emitted (i ∷ is) from h = absurd h
places_stand (p ∷ ps) emitted [] from h = absurd h
places_stand (p ∷ ps) emitted (i ∷ is) from h = (h.0.behind, h.0.there, places_stand ps emitted is (suc i) h.1)

-- ---- one more behind them

pub next_place : (found emitted : List PacketValue) (places : List ℕ) (p : PacketValue) (i from : ℕ) →
    HavePlaces found places emitted from → IsPlace p emitted (passed_at places from) i →
    HavePlaces (found ++ p ∷ []) (places ++ i ∷ []) emitted from
next_place [] emitted [] p i from h place = (place, tt)
next_place [] emitted (j ∷ js) p i from h place = absurd h
next_place (q ∷ qs) emitted [] p i from h place = absurd h
next_place (q ∷ qs) emitted (j ∷ js) p i from h place = (h.0, next_place qs emitted js p i (suc j) h.1 place)

-- ---- more is emitted

front_get : {A : Type 0} (xs ys : List A) (i : ℕ) → i < length xs → slice_get (xs ++ ys) i ≡ slice_get xs i
front_get [] ys i h = absurd (omega (arith, h))
front_get (x ∷ xs) ys zero h = refl
front_get (x ∷ xs) ys (suc i) h = front_get xs ys i (omega (arith, h))

later_place : (p : PacketValue) (emitted more : List PacketValue) (from i : ℕ) → IsPlace p emitted from i →
    IsPlace p (emitted ++ more) from i
later_place p emitted more from i h =
    let within = slice_get_within emitted i p h.there in
    record {
      behind = h.behind;
      there = front_get emitted more i within ∙ h.there;
      least = λ j behind below at. h.least j behind below
          (sym (front_get emitted more j (omega (arith, below, within))) ∙ at);
    }

pub later_places : (found emitted more : List PacketValue) (places : List ℕ) (from : ℕ) →
    HavePlaces found places emitted from → HavePlaces found places (emitted ++ more) from
later_places [] emitted more [] from h = tt
later_places [] emitted more (i ∷ is) from h = absurd h
later_places (p ∷ ps) emitted more [] from h = absurd h
later_places (p ∷ ps) emitted more (i ∷ is) from h =
    (later_place p emitted more from i h.0, later_places ps emitted more is (suc i) h.1)

-- ---- where there are any places, there are the least ones

-- the least place is not behind any other
least_below : (p : PacketValue) (emitted : List PacketValue) (from i j : ℕ) → IsPlace p emitted from i → from ≤ j →
    slice_get emitted j ≡ Some p → i ≤ j
least_below p emitted from i j h behind there = by (cases_lt j i)
  where
    by : (j < i) ⊎ (i ≤ j) → i ≤ j
    by (inl below) = absurd (h.least j behind below there)
    by (inr most) = most

-- a packet that stands somewhere has a least place, no further behind
some_place : (p : PacketValue) (emitted : List PacketValue) (from j : ℕ) → from ≤ j →
    slice_get emitted j ≡ Some p → (i : ℕ) × IsPlace p emitted from i × (i ≤ j)
some_place p emitted from j behind there = by (place_of p emitted from) (place_is p emitted from)
  where
    by : (o : Option ℕ) →
        MatchOption o ((i : ℕ) → from ≤ i → slice_get emitted i ≢ Some p) (λ i. IsPlace p emitted from i) →
        (i : ℕ) × IsPlace p emitted from i × (i ≤ j)
    by None h = absurd (h j behind there)
    by (Some i) h = (i, h, least_below p emitted from i j h behind there)

pub any_places : (found emitted : List PacketValue) (choice : List ℕ) (from least_from : ℕ) →
    least_from ≤ from → StandAt found choice emitted from →
    (places : List ℕ) × HavePlaces found places emitted least_from
any_places [] emitted [] from least_from below h = ([], tt)
any_places [] emitted (j ∷ js) from least_from below h = absurd h
any_places (p ∷ ps) emitted [] from least_from below h = absurd h
any_places (p ∷ ps) emitted (j ∷ js) from least_from below h =
    let behind : from ≤ j = h.0 in
    let here = some_place p emitted least_from j (omega (arith, below, behind)) h.1 in
    let i = here.0 in
    let least : i ≤ j = here.2 in
    let behind_it = any_places ps emitted js (suc j) (suc i) (omega (arith, least)) h.2 in
    (i ∷ behind_it.0, (here.1, behind_it.1))

-- ---- a packet that was sent has a place behind those found before it

pub last_place : (found emitted : List PacketValue) (places choice : List ℕ) (p : PacketValue)
    (from least_from : ℕ) → least_from ≤ from → StandAt (found ++ p ∷ []) choice emitted from →
    HavePlaces found places emitted least_from → (i : ℕ) × IsPlace p emitted (passed_at places least_from) i
last_place [] emitted [] [] p from least_from below h least = absurd h
last_place [] emitted [] (j ∷ js) p from least_from below h least =
    let behind : from ≤ j = h.0 in
    let here = some_place p emitted least_from j (omega (arith, below, behind)) h.1 in
    (here.0, here.1)
last_place [] emitted (i ∷ is) choice p from least_from below h least = absurd least
last_place (q ∷ qs) emitted [] choice p from least_from below h least = absurd least
last_place (q ∷ qs) emitted (i ∷ is) [] p from least_from below h least = absurd h
last_place (q ∷ qs) emitted (i ∷ is) (j ∷ js) p from least_from below h least =
    let behind : from ≤ j = h.0 in
    let least_here : i ≤ j = least_below q emitted least_from i j least.0 (omega (arith, below, behind)) h.1 in
    last_place qs emitted is js p (suc j) (suc i) (omega (arith, least_here)) h.2 least.1

pub none_left : (found emitted : List PacketValue) (places : List ℕ) (p : PacketValue) →
    HavePlaces found places emitted 0 →
    (place_of p emitted (passed_at places 0) ≡ None) ↔ (WereSent (found ++ p ∷ []) emitted → ⊥)
none_left found emitted places p least = (to, from)
  where
    to : place_of p emitted (passed_at places 0) ≡ None → WereSent (found ++ p ∷ []) emitted → ⊥
    to none sent =
        let here = last_place found emitted places sent.0 p 0 0 (omega arith) sent.1 least in
        subst (λ (o : Option ℕ). MatchOption o
        ((i : ℕ) → passed_at places 0 ≤ i → slice_get emitted i ≢ Some p)
        (λ i. IsPlace p emitted (passed_at places 0) i)) none
        (place_is p emitted (passed_at places 0)) here.0 here.1.behind here.1.there

    by : (o : Option ℕ) →
        MatchOption o ((i : ℕ) → passed_at places 0 ≤ i → slice_get emitted i ≢ Some p)
        (λ i. IsPlace p emitted (passed_at places 0) i) →
        (WereSent (found ++ p ∷ []) emitted → ⊥) → o ≡ None
    by None h not_sent = refl
    by (Some i) h not_sent = absurd (not_sent (
      places ++ i ∷ [],
      places_stand (found ++ p ∷ []) emitted (places ++ i ∷ []) 0 (next_place found emitted places p i 0 least h),
    ))

    from : (WereSent (found ++ p ∷ []) emitted → ⊥) → place_of p emitted (passed_at places 0) ≡ None
    from not_sent = by (place_of p emitted (passed_at places 0)) (place_is p emitted (passed_at places 0)) not_sent
