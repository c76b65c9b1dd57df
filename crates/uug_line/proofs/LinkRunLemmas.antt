-- The run of two links that a session is, made longer by what happens at one end, and seen from the other end.
use Rattle.std.proofs.Common.{◌≡◌, inl, inr, ℕ, zero, suc, ◌+◌, ◌-◌, ◌≤◌, List, [], ◌∷◌, ◌++◌, refl, sym, ap, ap₂, subst, ◌∙◌, arith}
use Rattle.std.proofs.lemmas.List.{append-nil}
use Rattle.uug_link.specs.Announced.{Announced}
use Rattle.uug_link.specs.Arrivals.{as_happenings, repeated_misses}
use Rattle.uug_link.specs.State.{State}
use Rattle.uug_link.specs.TwoLinks.{AllMayHappen, AllMayOccur, Ends, Happening, IsFirst, IsRun, MayOccur, Occurrence, after_happening, after_happenings, after_occurrence, after_occurrences, at_far, at_near, first_ends, hears, misses, moves, seen_from_far}
use Rattle.uug_packet.specs.Packet.{PacketValue}
use Rattle.uug_session.specs.EndStep.{first_link}
use Rattle.uug_conversation.specs.declared.side.Side.{Side}
use Rattle.uug_conversation.specs.declared.side.Side.TheVariants.{Caller, Called}
use Rattle.uug_line.specs.LinkRun.{LinksRan, happened_far, happened_near, places_heard}

-- ---- it is a run of two links that announce this

is_first : (me : Side) (own : Announced) → IsFirst own (first_link me own)
is_first Caller own = inl refl
is_first Called own = inr refl

abbrev pub first_of : (me other : Side) → (own others : Announced) → Ends
first_of me other own others = first_ends (first_link me own) (first_link other others)

pub is_run : (me other : Side) (own others : Announced) (ends : Ends) (near_places far_places : List ℕ) →
    LinksRan (first_of me other own others) ends near_places far_places → IsRun own others ends
is_run me other own others ends near_places far_places ran = record {
  near_first = first_link me own;
  far_first = first_link other others;
  occurrences = ran.occurrences;
  near_is = is_first me own;
  far_is = is_first other others;
  allowed = ran.allowed;
  leads = ran.leads;
}

-- ---- nothing has happened

pub ran_nowhere : (a b : State) → LinksRan (first_ends a b) (first_ends a b) [] []
ran_nowhere a b = record { occurrences = []; allowed = tt; leads = refl; near_heard = refl; far_heard = refl }

-- ---- one run behind another

all_may_append : (p : Ends) (os more : List Occurrence) → AllMayOccur p os → AllMayOccur (after_occurrences p os) more →
    AllMayOccur p (os ++ more)
all_may_append p [] more h k = k
all_may_append p (o ∷ os) more h k = (h.0, all_may_append (after_occurrence p o) os more h.1 k)

after_append : (p : Ends) (os more : List Occurrence) →
    after_occurrences p (os ++ more) ≡ after_occurrences (after_occurrences p os) more
after_append p [] more = refl
after_append p (o ∷ os) more = after_append (after_occurrence p o) os more

near_append : (os more : List Occurrence) → happened_near (os ++ more) ≡ happened_near os ++ happened_near more
near_append [] more = refl
near_append (at_near h ∷ os) more = ap (λ (l : List Happening). h ∷ l) (near_append os more)
near_append (at_far h ∷ os) more = near_append os more

far_append : (os more : List Occurrence) → happened_far (os ++ more) ≡ happened_far os ++ happened_far more
far_append [] more = refl
far_append (at_near h ∷ os) more = far_append os more
far_append (at_far h ∷ os) more = ap (λ (l : List Happening). h ∷ l) (far_append os more)

-- ---- the places

-- how many are then heard or skipped
abbrev passed_with : ℕ → List Happening → ℕ
passed_with passed [] = passed
passed_with passed (moves event ∷ hs) = passed_with passed hs
passed_with passed (misses ∷ hs) = passed_with (suc passed) hs
passed_with passed (hears p ∷ hs) = passed_with (suc passed) hs

near_passed : (p : Ends) (os : List Occurrence) →
    passed_with p.near.passed (happened_near os) ≡ (after_occurrences p os).near.passed
near_passed p [] = refl
near_passed p (at_near (moves event) ∷ os) = near_passed (after_occurrence p (at_near (moves event))) os
near_passed p (at_near misses ∷ os) = near_passed (after_occurrence p (at_near misses)) os
near_passed p (at_near (hears q) ∷ os) = near_passed (after_occurrence p (at_near (hears q))) os
near_passed p (at_far h ∷ os) = near_passed (after_occurrence p (at_far h)) os

places_append : (passed : ℕ) (hs more : List Happening) →
    places_heard passed (hs ++ more) ≡ places_heard passed hs ++ places_heard (passed_with passed hs) more
places_append passed [] more = refl
places_append passed (moves event ∷ hs) more = places_append passed hs more
places_append passed (misses ∷ hs) more = places_append (suc passed) hs more
places_append passed (hears p ∷ hs) more = ap (λ (l : List ℕ). passed ∷ l) (places_append (suc passed) hs more)

-- an arrival is at one place
arrival_place : (passed n : ℕ) (p : PacketValue) → places_heard passed (repeated_misses n ++ hears p ∷ []) ≡ (passed + n) ∷ []
arrival_place passed zero p = ap (λ (i : ℕ). i ∷ []) (omega arith)
arrival_place passed (suc n) p = arrival_place (suc passed) n p ∙ ap (λ (i : ℕ). i ∷ []) (omega arith)

pub arrival_heard : (p : PacketValue) (passed place : ℕ) → passed ≤ place →
    places_heard passed (as_happenings p passed place) ≡ place ∷ []
arrival_heard p passed place behind =
    arrival_place passed (place - passed) p ∙ ap (λ (i : ℕ). i ∷ []) (omega (arith, behind))

-- ---- more happens at the near end

all_near : List Happening → List Occurrence
all_near [] = []
all_near (h ∷ hs) = at_near h ∷ all_near hs

all_near_may : (p : Ends) (hs : List Happening) → AllMayHappen p.near p.far hs → AllMayOccur p (all_near hs)
unfolding all_near
all_near_may p [] h = tt
all_near_may p (x ∷ hs) h = (h.0, all_near_may (record p { near = after_happening p.near x }) hs h.1)

all_near_after : (p : Ends) (hs : List Happening) →
    after_occurrences p (all_near hs) ≡ record p { near = after_happenings p.near hs }
unfolding all_near
all_near_after p [] = refl
all_near_after p (x ∷ hs) = all_near_after (record p { near = after_happening p.near x }) hs

near_of_near : (hs : List Happening) → happened_near (all_near hs) ≡ hs
unfolding all_near
near_of_near [] = refl
near_of_near (h ∷ hs) = ap (λ (l : List Happening). h ∷ l) (near_of_near hs)

far_of_near : (hs : List Happening) → happened_far (all_near hs) ≡ []
unfolding all_near
far_of_near [] = refl
far_of_near (h ∷ hs) = far_of_near hs

pub ran_on : (a b : State) (ends : Ends) (near_places far_places : List ℕ) (hs : List Happening) →
    LinksRan (first_ends a b) ends near_places far_places → AllMayHappen ends.near ends.far hs →
    LinksRan (first_ends a b) (record { near = after_happenings ends.near hs; far = ends.far })
    (near_places ++ places_heard ends.near.passed hs) far_places
ran_on a b ends near_places far_places hs ran may = record {
  occurrences = ran.occurrences ++ all_near hs;
  allowed = all_may_append first ran.occurrences (all_near hs) ran.allowed
      (subst (λ (p : Ends). AllMayOccur p (all_near hs)) (sym ran.leads) (all_near_may ends hs may));
  leads = after_append first ran.occurrences (all_near hs)
      ∙ ap (λ (p : Ends). after_occurrences p (all_near hs)) ran.leads ∙ all_near_after ends hs;
  near_heard = ap (places_heard 0)
      (near_append ran.occurrences (all_near hs)
      ∙ ap (λ (l : List Happening). happened_near ran.occurrences ++ l) (near_of_near hs))
      ∙ places_append 0 (happened_near ran.occurrences) hs
      ∙ ap₂ (λ (l : List ℕ) (n : ℕ). l ++ places_heard n hs) ran.near_heard
      (near_passed first ran.occurrences ∙ ap (λ (p : Ends). p.near.passed) ran.leads);
  far_heard = ap (places_heard 0)
      (far_append ran.occurrences (all_near hs)
      ∙ ap (λ (l : List Happening). happened_far ran.occurrences ++ l) (far_of_near hs)
      ∙ append-nil (happened_far ran.occurrences))
      ∙ ran.far_heard;
}
  where
    first : Ends
    first = first_ends a b

-- ---- seen from the other end

from_far : Occurrence → Occurrence
from_far (at_near h) = at_far h
from_far (at_far h) = at_near h

all_from_far : List Occurrence → List Occurrence
all_from_far [] = []
all_from_far (o ∷ os) = from_far o ∷ all_from_far os

after_one_far : (p : Ends) (o : Occurrence) →
    after_occurrence (seen_from_far p) (from_far o) ≡ seen_from_far (after_occurrence p o)
unfolding from_far
after_one_far p (at_near h) = refl
after_one_far p (at_far h) = refl

may_far : (p : Ends) (o : Occurrence) → MayOccur p o → MayOccur (seen_from_far p) (from_far o)
unfolding from_far
may_far p (at_near h) k = k
may_far p (at_far h) k = k

all_may_far : (p : Ends) (os : List Occurrence) → AllMayOccur p os → AllMayOccur (seen_from_far p) (all_from_far os)
unfolding all_from_far
all_may_far p [] h = tt
all_may_far p (o ∷ os) h = (
  may_far p o h.0,
  subst (λ (q : Ends). AllMayOccur q (all_from_far os)) (sym (after_one_far p o)) (all_may_far (after_occurrence p o) os h.1),
)

after_far : (p : Ends) (os : List Occurrence) →
    after_occurrences (seen_from_far p) (all_from_far os) ≡ seen_from_far (after_occurrences p os)
unfolding all_from_far
after_far p [] = refl
after_far p (o ∷ os) =
    ap (λ (q : Ends). after_occurrences q (all_from_far os)) (after_one_far p o) ∙ after_far (after_occurrence p o) os

near_from_far : (os : List Occurrence) → happened_near (all_from_far os) ≡ happened_far os
unfolding all_from_far from_far
near_from_far [] = refl
near_from_far (at_near h ∷ os) = near_from_far os
near_from_far (at_far h ∷ os) = ap (λ (l : List Happening). h ∷ l) (near_from_far os)

far_from_far : (os : List Occurrence) → happened_far (all_from_far os) ≡ happened_near os
unfolding all_from_far from_far
far_from_far [] = refl
far_from_far (at_near h ∷ os) = ap (λ (l : List Happening). h ∷ l) (far_from_far os)
far_from_far (at_far h ∷ os) = far_from_far os

pub ran_from_far : (a b : State) (ends : Ends) (near_places far_places : List ℕ) →
    LinksRan (first_ends a b) ends near_places far_places →
    LinksRan (first_ends b a) (seen_from_far ends) far_places near_places
ran_from_far a b ends near_places far_places ran = record {
  occurrences = all_from_far ran.occurrences;
  allowed = all_may_far (first_ends a b) ran.occurrences ran.allowed;
  leads = after_far (first_ends a b) ran.occurrences ∙ ap (λ (p : Ends). seen_from_far p) ran.leads;
  near_heard = ap (places_heard 0) (near_from_far ran.occurrences) ∙ ran.far_heard;
  far_heard = ap (places_heard 0) (far_from_far ran.occurrences) ∙ ran.near_heard;
}
