-- Whether none was fooled, at each moment of an order of events, by tests.
use Rattle.std.proofs.Common.{◌≡◌, ◌≢◌, ◌⊎◌, inl, inr, ℕ, zero, suc, ◌<◌, ◌≤◌, Bool, true, false, ◌&&◌, List, [], ◌∷◌, length, take, Option, Some, None, refl, sym, subst, ◌∙◌, arith, true≢false}
use Rattle.std.proofs.lemmas.Bool.{cases_eq, cases_lt}
use Rattle.std.proofs.lemmas.List.{take_all}
use Rattle.std.proofs.Math.Seq.{take-length}
use Rattle.uug_link.specs.Arrivals.{IsPlace, place_of}
use Rattle.uug_packet.specs.Packet.{PacketValue}
use Rattle.uug_conversation.specs.Sides.{AtBoth}
use Rattle.uug_conversation.specs.Turns.{other}
use Rattle.uug_conversation.specs.declared.side.Side.{Side}
use Rattle.uug_conversation.specs.declared.side.Side.TheVariants.{Caller, Called}
use Rattle.uug_line.specs.LineEndState.{packets_in}
use Rattle.uug_line.specs.WereSent.{StandAt, WereSent}
use Rattle.uug_line.proofs.FoundLemmas.{place_is_there}
use Rattle.uug_session.specs.Beginnings.{EndBeginning}
use Rattle.uug_pair.specs.TwoCourses.{EventAt, NoneIsFooled, course_at}

-- ---- the tests

abbrev pub sent_behind : (more : ℕ → Bool) → Option ℕ → Bool
sent_behind more None = false
sent_behind more (Some i) = more (suc i)

abbrev pub were_sent : (found emitted : List PacketValue) → (from : ℕ) → Bool
were_sent [] emitted from = true
were_sent (p ∷ found) emitted from = sent_behind (were_sent found emitted) (place_of p emitted from)

abbrev pub honest_at : AtBoth EndBeginning → List EventAt → Bool
honest_at both order =
    were_sent (course_at both order Caller).found (packets_in (course_at both order Called).emitted) 0
    && were_sent (course_at both order Called).found (packets_in (course_at both order Caller).emitted) 0

-- of each number up to the last
abbrev pub all_up_to : (ℕ → Bool) → (last : ℕ) → Bool
all_up_to test zero = test 0
all_up_to test (suc n) = test (suc n) && all_up_to test n

abbrev pub honest : AtBoth EndBeginning → List EventAt → Bool
honest both order = all_up_to (λ n. honest_at both (take n order)) (length order)

-- ---- where no test fails, none was fooled

abbrev AreSent : List PacketValue → (emitted : List PacketValue) → Type 0
AreSent found emitted = (from : ℕ) → were_sent found emitted from ≡ true → (places : List ℕ) × StandAt found places emitted from

first_sent : (p : PacketValue) (found emitted : List PacketValue) (from : ℕ) → AreSent found emitted → (o : Option ℕ) →
    place_of p emitted from ≡ o → sent_behind (were_sent found emitted) o ≡ true → (places : List ℕ) × StandAt (p ∷ found) places emitted from
first_sent p found emitted from more None is h = absurd (true≢false (sym h))
first_sent p found emitted from more (Some i) is h =
    let place : IsPlace p emitted from i = place_is_there p emitted from i is in
    let behind = more (suc i) h in
    (i ∷ behind.0, (place.behind, place.there, behind.1))

are_sent : (found emitted : List PacketValue) → AreSent found emitted
are_sent [] emitted from h = ([], tt)
are_sent (p ∷ found) emitted from h = first_sent p found emitted from (are_sent found emitted) (place_of p emitted from) refl h

both_true : (a b : Bool) → (a && b) ≡ true → (a ≡ true) × (b ≡ true)
both_true true true h = (refl, refl)
both_true true false h = absurd (true≢false (sym h))
both_true false b h = absurd (true≢false (sym h))

honest_so : (both : AtBoth EndBeginning) (order : List EventAt) → honest_at both order ≡ true → (side : Side) →
    WereSent (course_at both order side).found (packets_in (course_at both order (other side)).emitted)
honest_so both order h Caller =
    are_sent (course_at both order Caller).found (packets_in (course_at both order Called).emitted) 0
    (both_true (were_sent (course_at both order Caller).found (packets_in (course_at both order Called).emitted) 0)
    (were_sent (course_at both order Called).found (packets_in (course_at both order Caller).emitted) 0) h).0
honest_so both order h Called =
    are_sent (course_at both order Called).found (packets_in (course_at both order Caller).emitted) 0
    (both_true (were_sent (course_at both order Caller).found (packets_in (course_at both order Called).emitted) 0)
    (were_sent (course_at both order Called).found (packets_in (course_at both order Caller).emitted) 0) h).1

each_up_to : (test : ℕ → Bool) (k : ℕ) → all_up_to test k ≡ true → (n : ℕ) → n ≤ k → test n ≡ true
each_up_to test zero h zero below = h
each_up_to test zero h (suc n) below = absurd (omega (arith, below))
each_up_to test (suc k) h n below = by (each_up_to test k (both_true (test (suc k)) (all_up_to test k) h).1 n) (cases_eq n (suc k))
  where
    by : (n ≤ k → test n ≡ true) → (n ≡ suc k) ⊎ (n ≢ suc k) → test n ≡ true
    by before (inl same) = subst (λ m. test m ≡ true) (sym same) (both_true (test (suc k)) (all_up_to test k) h).0
    by before (inr another) = before (omega (arith, below, another))

pub none_fooled : (both : AtBoth EndBeginning) (order : List EventAt) → honest both order ≡ true → NoneIsFooled both order
none_fooled both order h n side = by (cases_lt n (length order))
  where
    at : (m : ℕ) → m ≤ length order → honest_at both (take m order) ≡ true
    at m below = each_up_to (λ m. honest_at both (take m order)) (length order) h m below

    by : (n < length order) ⊎ (length order ≤ n) →
        WereSent (course_at both (take n order) side).found (packets_in (course_at both (take n order) (other side)).emitted)
    by (inl below) = honest_so both (take n order) (at n (omega (arith, below))) side
    by (inr above) =
        subst (λ (o : List EventAt). WereSent (course_at both o side).found (packets_in (course_at both o (other side)).emitted))
        (take-length order ∙ sym (take_all n order above))
        (honest_so both (take (length order) order) (at (length order) (omega arith)) side)
