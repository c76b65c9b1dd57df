-- Whatever happens to two links, each packet that one emits is well formed, and a data packet carries a message that was sent.
use Rattle.std.proofs.Common.{◌≡◌, inl, inr, ℕ, ◌≤◌, List, [], ◌∷◌, ◌++◌, length, drop, slice_get, Some, All, sym, subst}
use Rattle.std.proofs.lemmas.List.{drop-append-le}
use Rattle.std.proofs.lemmas.List.Elements.{All-nil, All-cons, All-head, All-tail, All-append, All-get_or}
use Rattle.std.proofs.lemmas.Option.{get_or_from_slice_get, slice_get_within}
use Rattle.uug_link.specs.Announced.{Announced}
use Rattle.uug_link.specs.InRange.{AreWellFormed, IsAnnouncement, IsInRange, MayMeet}
use Rattle.uug_link.specs.OnTheLine.{AreWritten, of_window}
use Rattle.uug_link.specs.State.{State}
use Rattle.uug_link.specs.Step.{Emission, Event, to_begin, packet_found, bad_found, timed_out, to_send, to_close, step}
use Rattle.uug_link.specs.Terms.{IsWindow}
use Rattle.uug_link.specs.TwoLinks.{AllMayOccur, End, Ends, Happening, moves, misses, hears, IsFirst, IsRun, MayCall, MayHappen, MayOccur, Occurrence, at_far, at_near, after_happening, after_occurrence, after_occurrences, first_end, first_ends, packets_of, sent_with}
use Rattle.uug_link.specs.WindowMachine.{Flying, acknowledgement, data_at}
use Rattle.uug_packet.specs.Bytes.{AreBytes}
use Rattle.uug_packet.specs.Packet.{close, rj, srj, rr, init_c, init_b, init_a, PacketValue, control, carry}
use Rattle.uug_packet.specs.WellFormed.{IsWellFormed}
use Rattle.uug_line.proofs.ByteLemmas.{CarriesBytes, IsByte, are_bytes}
use Rattle.uug_line.proofs.EmittedByteLemmas.{IsRight}
use Rattle.uug_link.proofs.TwoLinksRuns.{IsRun-first, IsRun-one, machine_runs}
use Rattle.uug_link.proofs.InRangeLemmas.{range_at_first, range_stays, emits_well_formed}

-- ---- lists

abbrev AllCarryBytes : List PacketValue → Type 0
AllCarryBytes ps = All CarriesBytes ps

pub all_in_front : {X : Type 0} (P : X → Type 0) (xs ys : List X) → All P (xs ++ ys) → All P xs
all_in_front P [] ys all = All-nil P
all_in_front P (x ∷ xs) ys all =
    All-cons P x xs (All-head P x (xs ++ ys) all) (all_in_front P xs ys (All-tail P x (xs ++ ys) all))

pub all_behind : {X : Type 0} (P : X → Type 0) (xs ys : List X) → All P (xs ++ ys) → All P ys
all_behind P [] ys all = all
all_behind P (x ∷ xs) ys all = all_behind P xs ys (All-tail P x (xs ++ ys) all)

-- the element at a place
there : {X : Type 0} (P : X → Type 0) (xs : List X) (n : ℕ) (x : X) → slice_get xs n ≡ Some x → All P xs → P x
there P xs n x is all =
    subst P (get_or_from_slice_get xs n x x is) (All-get_or P xs n x (slice_get_within xs n x is) all)

-- ---- a packet in flight carries a message that was sent

bare : AreBytes []
bare = are_bytes [] (All-nil IsByte)

in_flight : (sent : List (List ℕ)) (flight : List Flying) (ps : List PacketValue) → AreWritten sent flight (of_window ps)
    → All AreBytes sent → AllCarryBytes ps
in_flight sent flight [] written all = All-nil CarriesBytes
in_flight sent flight (control close ∷ ps) written all =
    All-cons CarriesBytes (control close) ps bare (in_flight sent flight ps written all)
in_flight sent flight (control (init_c y) ∷ ps) written all =
    All-cons CarriesBytes (control (init_c y)) ps bare (in_flight sent flight ps written all)
in_flight sent flight (control (init_b y) ∷ ps) written all =
    All-cons CarriesBytes (control (init_b y)) ps bare (in_flight sent flight ps written all)
in_flight sent flight (control (init_a y) ∷ ps) written all =
    All-cons CarriesBytes (control (init_a y)) ps bare (in_flight sent flight ps written all)
in_flight sent [] (control (rj y) ∷ ps) written all = absurd written
in_flight sent (x ∷ flight) (control (rj y) ∷ ps) written all =
    All-cons CarriesBytes (control (rj y)) ps bare (in_flight sent flight ps written.1 all)
in_flight sent [] (control (srj y) ∷ ps) written all = absurd written
in_flight sent (x ∷ flight) (control (srj y) ∷ ps) written all =
    All-cons CarriesBytes (control (srj y)) ps bare (in_flight sent flight ps written.1 all)
in_flight sent [] (control (rr y) ∷ ps) written all = absurd written
in_flight sent (x ∷ flight) (control (rr y) ∷ ps) written all =
    All-cons CarriesBytes (control (rr y)) ps bare (in_flight sent flight ps written.1 all)
in_flight sent [] (carry seq ack k message ∷ ps) written all = absurd written
in_flight sent (data_at n a ∷ flight) (carry seq ack k message ∷ ps) written all =
    All-cons CarriesBytes (carry seq ack k message) ps (there AreBytes sent n message written.0.2 all)
    (in_flight sent flight ps written.1 all)
in_flight sent (acknowledgement a ∷ flight) (carry seq ack k message ∷ ps) written all = absurd written.0

-- what is emitted behind packets of which some were found
new_in_flight : (sent : List (List ℕ)) (flight : List Flying) (passed : ℕ) (before new : List PacketValue) → passed ≤ length before
    → AreWritten sent flight (of_window (drop passed (before ++ new))) → All AreBytes sent → AllCarryBytes new
new_in_flight sent flight passed before new within written all =
    all_behind CarriesBytes (drop passed before) new
    (subst AllCarryBytes (drop-append-le passed before new within) (in_flight sent flight (drop passed (before ++ new)) written all))

-- ---- an end

pub record IsRightEnd (e : End) : Type 0 where
  pub range : IsInRange e.link
  pub whole : All IsWellFormed e.emitted
  pub carried : All AreBytes e.sent → AllCarryBytes e.emitted

-- what was sent before
before_sent : (event : Event) (sent : List (List ℕ)) → All AreBytes (sent_with event sent) → All AreBytes sent
before_sent to_begin sent all = all
before_sent (packet_found p) sent all = all
before_sent bad_found sent all = all
before_sent timed_out sent all = all
before_sent (to_send message) sent all = all_in_front AreBytes sent (message ∷ []) all
before_sent to_close sent all = all

packets_whole : (es : List Emission) → AreWellFormed es → All IsWellFormed (packets_of es)
packets_whole [] whole = All-nil IsWellFormed
packets_whole (e ∷ es) whole =
    All-cons IsWellFormed e.packet (packets_of es) (All-head (λ x. IsWellFormed x.packet) e es whole)
    (packets_whole es (All-tail (λ x. IsWellFormed x.packet) e es whole))

may_meet : (s : State) (event : Event) → MayCall s event → MayMeet s event
may_meet s to_begin may = may
may_meet s (packet_found p) may = absurd may
may_meet s bad_found may = tt
may_meet s timed_out may = tt
may_meet s (to_send message) may = (may.0.0, may.1)
may_meet s to_close may = tt

-- the link was moved so, and the two ends read as the machine before and then
moved_right : (e : End) (event : Event) (passed : ℕ) (flight : List Flying) → MayMeet e.link event → passed ≤ length e.emitted
    → AreWritten (sent_with event e.sent) flight (of_window (drop passed (e.emitted ++ packets_of (step e.link event).emitted)))
    → IsRightEnd e → (taken : List (List ℕ)) (found : ℕ)
    → IsRightEnd (record {
      link = (step e.link event).state;
      sent = sent_with event e.sent;
      taken = taken;
      emitted = e.emitted ++ packets_of (step e.link event).emitted;
      passed = found;
    })
moved_right e event passed flight may within written right taken found = record {
  range = range_stays e.link event right.range may;
  whole = All-append IsWellFormed e.emitted (packets_of (step e.link event).emitted) right.whole
      (packets_whole (step e.link event).emitted (emits_well_formed e.link event right.range may));
  carried = λ all. All-append CarriesBytes e.emitted (packets_of (step e.link event).emitted)
      (right.carried (before_sent event e.sent all))
      (new_in_flight (sent_with event e.sent) flight passed e.emitted (packets_of (step e.link event).emitted) within written all);
}

-- at an end, where the two read as the machine before and behind it
happens_right : (e other : End) (h : Happening) (passed : ℕ) (flight : List Flying) → MayHappen e other h
    → passed ≤ length e.emitted
    → AreWritten (after_happening e h).sent flight (of_window (drop passed (after_happening e h).emitted))
    → All IsWellFormed other.emitted → IsRightEnd e → IsRightEnd (after_happening e h)
happens_right e other (moves event) passed flight may within written whole right =
    moved_right e event passed flight (may_meet e.link event may) within written right (after_happening e (moves event)).taken e.passed
happens_right e other misses passed flight may within written whole right =
    record { range = right.range; whole = right.whole; carried = right.carried }
happens_right e other (hears p) passed flight may within written whole right =
    moved_right e (packet_found p) passed flight (there IsWellFormed other.emitted e.passed p may whole) within written right
    (after_happening e (hears p)).taken (after_happening e (hears p)).passed

module _ (near far : Announced) (near_window : IsWindow near.window) (far_window : IsWindow far.window) where
  abbrev BothRight : Ends → Type 0
  BothRight ends = IsRightEnd ends.near × IsRightEnd ends.far

  occurs_right : (ends : Ends) (o : Occurrence) → IsRun near far ends → MayOccur ends o → BothRight ends
      → BothRight (after_occurrence ends o)
  occurs_right ends (at_near h) run may right =
      let before = machine_runs near far ends near_window far_window run in
      let then = machine_runs near far (after_occurrence ends (at_near h)) near_window far_window
      (IsRun-one near far ends (at_near h) run may) in (
        happens_right ends.near ends.far h ends.far.passed then.0.out.flight may before.2.passed then.2.flight
            right.1.whole right.0,
        right.1,
      )
  occurs_right ends (at_far h) run may right =
      let before = machine_runs near far ends near_window far_window run in
      let then = machine_runs near far (after_occurrence ends (at_far h)) near_window far_window
      (IsRun-one near far ends (at_far h) run may) in (
        right.0,
        happens_right ends.far ends.near h ends.near.passed then.0.back.flight may before.3.passed then.3.flight
            right.0.whole right.1,
      )

  occur_right : (os : List Occurrence) (ends : Ends) → IsRun near far ends → AllMayOccur ends os → BothRight ends
      → BothRight (after_occurrences ends os)
  occur_right [] ends run may right = right
  occur_right (o ∷ os) ends run may right =
      occur_right os (after_occurrence ends o) (IsRun-one near far ends o run may.0) may.1
      (occurs_right ends o run may.0 right)

  first_right : (own : Announced) (s : State) → IsAnnouncement own → IsFirst own s → IsRightEnd (first_end s)
  first_right own s may (inl is) = record {
    range = subst IsInRange (sym is) (range_at_first own may).0;
    whole = All-nil IsWellFormed;
    carried = λ all. All-nil CarriesBytes;
  }
  first_right own s may (inr is) = record {
    range = subst IsInRange (sym is) (range_at_first own may).1;
    whole = All-nil IsWellFormed;
    carried = λ all. All-nil CarriesBytes;
  }

  pub run_right : (ends : Ends) → IsAnnouncement near → IsAnnouncement far → IsRun near far ends → BothRight ends
  run_right ends near_may far_may run =
      subst BothRight run.leads
      (occur_right run.occurrences (first_ends run.near_first run.far_first)
      (IsRun-first near far run.near_first run.far_first run.near_is run.far_is) run.allowed
      (first_right near run.near_first near_may run.near_is, first_right far run.far_first far_may run.far_is))

-- what was sent is bytes, so its packets are right ones
pub right_packets : (e : End) → IsRightEnd e → All AreBytes e.sent → All IsRight e.emitted
right_packets e right all = λ k d within. (right.whole k d within, right.carried all k d within)
