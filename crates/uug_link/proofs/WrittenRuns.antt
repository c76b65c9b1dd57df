-- What two links emit in a run can be written: each meets only packets that the other emitted.
use Rattle.std.proofs.Common.{◌≡◌, ℕ, List, [], ◌∷◌, All, slice_get, get_or, Some, inl, inr, sym, subst, ◌∙◌}
use Rattle.std.proofs.lemmas.List.Elements.{All-nil, All-cons, All-head, All-tail, All-append, All-get_or}
use Rattle.std.proofs.lemmas.Option.{same_Some, slice_get-get_or, slice_get_within}
use Rattle.uug_link.specs.Announced.{Announced}
use Rattle.uug_link.specs.Counts.{AlwaysEmits, CanBeWritten}
use Rattle.uug_link.specs.InRange.{IsAnnouncement, IsInRange, MayMeet, AreWellFormed}
use Rattle.uug_link.specs.State.{State}
use Rattle.uug_link.specs.Step.{Emission, Event, to_begin, packet_found, bad_found, timed_out, to_send, to_close, step}
use Rattle.uug_link.specs.TwoLinks.{End, Ends, Happening, moves, misses, hears, Occurrence, at_near, at_far, IsFirst, MayCall, MayHappen, MayOccur, AllMayOccur, moved_by, after_happening, after_occurrence, after_occurrences, first_end, first_ends, packets_of}
use Rattle.uug_link.proofs.InRangeLemmas.{range_at_first, range_stays, emits_well_formed}
use Rattle.uug_packet.specs.Packet.{PacketValue, control, close}
use Rattle.uug_packet.specs.WellFormed.{IsWellFormed}

record IsFine (e : End) : Type 0 where
  link : IsInRange e.link
  emitted : CanBeWritten e

packets_written : (es : List Emission) → AreWellFormed es → All IsWellFormed (packets_of es)
packets_written [] h = All-nil IsWellFormed
packets_written (e ∷ es) h =
    All-cons IsWellFormed e.packet (packets_of es) (All-head (λ (x : Emission). IsWellFormed x.packet) e es h)
    (packets_written es (All-tail (λ (x : Emission). IsWellFormed x.packet) e es h))

meets : (s : State) (event : Event) → MayCall s event → MayMeet s event
meets s to_begin may = may
meets s (packet_found p) may = absurd may
meets s bad_found may = tt
meets s timed_out may = tt
meets s (to_send message) may = (may.0.0, may.1)
meets s to_close may = tt

fine_moved : (e : End) (event : Event) → IsFine e → MayMeet e.link event → IsFine (moved_by e event)
fine_moved e event h may = record {
  link = range_stays e.link event h.link may;
  emitted = All-append IsWellFormed e.emitted (packets_of (step e.link event).emitted) h.emitted
      (packets_written (step e.link event).emitted (emits_well_formed e.link event h.link may));
}

-- a packet that the other end emitted
was_written : (ps : List PacketValue) (i : ℕ) (p : PacketValue) → All IsWellFormed ps → slice_get ps i ≡ Some p →
    IsWellFormed p
was_written ps i p h at =
    let within = slice_get_within ps i p at in
    subst IsWellFormed (same_Some (get_or ps i (control close)) p
    (sym (slice_get-get_or ps i (control close) within) ∙ at))
    (All-get_or IsWellFormed ps i (control close) within h)

fine_happened : (e other : End) (h : Happening) → IsFine e → CanBeWritten other → MayHappen e other h →
    IsFine (after_happening e h)
fine_happened e other (moves event) fine written may = fine_moved e event fine (meets e.link event may)
fine_happened e other misses fine written may = record { link = fine.link; emitted = fine.emitted }
fine_happened e other (hears p) fine written may =
    let heard = fine_moved e (packet_found p) fine (was_written other.emitted e.passed p written may) in
    record { link = heard.link; emitted = heard.emitted }

fine_first : (own : Announced) (s : State) → IsAnnouncement own → IsFirst own s → IsFine (first_end s)
fine_first own s right (inl is) = record {
  link = subst IsInRange (sym is) (range_at_first own right).0;
  emitted = All-nil IsWellFormed;
}
fine_first own s right (inr is) = record {
  link = subst IsInRange (sym is) (range_at_first own right).1;
  emitted = All-nil IsWellFormed;
}

record AreFine (p : Ends) : Type 0 where
  near : IsFine p.near
  far : IsFine p.far

fine_occurred : (p : Ends) (o : Occurrence) → AreFine p → MayOccur p o → AreFine (after_occurrence p o)
fine_occurred p (at_near h) fine may =
    record { near = fine_happened p.near p.far h fine.near fine.far.emitted may; far = fine.far }
fine_occurred p (at_far h) fine may =
    record { near = fine.near; far = fine_happened p.far p.near h fine.far fine.near.emitted may }

fine_after : (p : Ends) (os : List Occurrence) → AreFine p → AllMayOccur p os → AreFine (after_occurrences p os)
fine_after p [] fine may = fine
fine_after p (o ∷ os) fine may = fine_after (after_occurrence p o) os (fine_occurred p o fine may.0) may.1

pub always_written : AlwaysEmits CanBeWritten
always_written near far p right other run =
    let fine = subst AreFine run.leads (fine_after (first_ends run.near_first run.far_first) run.occurrences
    (record { near = fine_first near run.near_first right run.near_is; far = fine_first far run.far_first other run.far_is })
    run.allowed) in
    (fine.near.emitted, fine.far.emitted)
