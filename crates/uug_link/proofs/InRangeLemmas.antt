-- Each step of a link that is in range leaves it so, and emits packets that can be written.
use Rattle.std.proofs.Common.{◌≡◌, ℕ, ◌+◌, ◌%◌, ◌<◌, ◌≤◌, ◌==◌, nat_lt, if◌then◌else◌, Bool, true, false, List, [], ◌∷◌, length, All, Option, None, option_to_list, slice_get, get_or, inl, inr, refl, sym, subst, arith}
use Rattle.std.proofs.lemmas.List.{drop_all}
use Rattle.std.proofs.lemmas.List.Elements.{All-nil, All-cons, All-head, All-tail, All-same, All-drop, All-append}
use Rattle.std.proofs.lemmas.Option.{slice_get-get_or, slice_get_past}
use Rattle.std.proofs.lemmas.Bool.{cases_lt}
use Rattle.uug_link.specs.declared.announce.Announce.{Announce}
use Rattle.uug_link.specs.declared.limits.TheConstants.{MESSAGE_MAX, SIZE_CODES, TIMEOUTS_MAX}
use Rattle.uug_link.specs.declared.phase.Phase.{Phase}
use Rattle.uug_link.specs.declared.phase.Phase.TheVariants.{Fresh, AwaitsInitA, AwaitsInitB, AwaitsInitC, Up, Closing, Halted}
use Rattle.uug_link.specs.declared.phase.Role.{Role}
use Rattle.uug_link.specs.declared.phase.Role.TheVariants.{Caller, Called}
use Rattle.uug_link.specs.Announced.{Announced, announced}
use Rattle.uug_link.specs.InRange.{IsAnnouncement, IsInRange, MayMeet, AreWellFormed}
use Rattle.uug_link.specs.State.{State, Fits, IsFresh, IsStarting, IsUp, caller_state, called_state, first_state, is_halted}
use Rattle.uug_link.specs.Step.{Effect, Emission, Event, to_begin, packet_found, bad_found, timed_out, to_send, to_close, step, ignored, answers, only, nothing, on_init_a, on_init_b, on_init_c, on_close, on_rr, on_rj, on_srj, on_data, on_number, is_expected, is_enough, reject_left_after, until_over, on_bad, acknowledged, struck, distance, data_packet, last_received, sent_again, outstanding, selected, next_number, repeated, on_timeout, on_send, on_packet, on_event}
use Rattle.uug_link.proofs.OtherLemmas.{keeping, other_holds}
use Rattle.uug_link.proofs.SmallestLemmas.{smallest_holds, smallest_is_code, within_most}
use Rattle.uug_packet.specs.Packet.{ControlValue, close, rj, srj, rr, init_c, init_b, init_a, PacketValue, control, carry}
use Rattle.uug_packet.specs.WellFormed.{HasNumber, IsWellFormed}

record IsFine (x : Effect) : Type 0 where
  state : IsInRange x.state
  emitted : AreWellFormed x.emitted

fine_either : (b : Bool) (x y : Effect) → IsFine x → IsFine y → IsFine (if b then x else y)
fine_either true x y h k = h
fine_either false x y h k = k

-- ---- what goes out

none_out : AreWellFormed []
none_out = All-nil (λ (e : Emission). IsWellFormed e.packet)

one_out : (p : PacketValue) (first : Bool) → IsWellFormed p → AreWellFormed (record { packet = p; first = first } ∷ [])
one_out p first h = All-cons (λ (e : Emission). IsWellFormed e.packet) (record { packet = p; first = first }) [] h none_out

only_out : (c : ControlValue) → HasNumber c → AreWellFormed (only c)
only_out c h = one_out (control c) false h

data_well_formed : (s : State) (number : ℕ) (message : List ℕ) → IsInRange s → number < 8 → Fits s.size_code message
    → IsWellFormed (data_packet s number message)
data_well_formed s number message h low fits =
    let few : length message ≤ MESSAGE_MAX = within_most s.size_code (length message) h.size_code fits in
    let ack : last_received s < 8 = omega arith in
    (low, ack, (smallest_is_code (length message), smallest_holds (length message) few))

again_out : (s : State) (number : ℕ) (messages : List (List ℕ)) → IsInRange s → number < 8
    → All (Fits s.size_code) messages → AreWellFormed (sent_again (data_packet s) number messages)
again_out s number [] h low fit = none_out
again_out s number (message ∷ messages) h low fit =
    All-cons (λ (e : Emission). IsWellFormed e.packet) (record { packet = data_packet s number message; first = false })
    (sent_again (data_packet s) ((number + 1) % 8) messages)
    (data_well_formed s number message h low (All-head (Fits s.size_code) message messages fit))
    (again_out s ((number + 1) % 8) messages h (omega arith) (All-tail (Fits s.size_code) message messages fit))

outstanding_out : (s : State) → IsInRange s → AreWellFormed (outstanding s)
outstanding_out s h = again_out s s.oldest s.unacked h h.oldest h.fit

one_of : (P : List ℕ → Type 0) (messages : List (List ℕ)) (i : ℕ) → All P messages → All P (option_to_list (slice_get messages i))
one_of P messages i h =
    elim (cases_lt i (length messages)) [
      | inl there ↦
          rw (slice_get-get_or messages i [] there) (All-cons P (get_or messages i []) [] (h i [] there) (All-nil P))
      | inr past ↦ rw (slice_get_past messages i past) (All-nil P)
    ]

selected_out : (y : ℕ) (s : State) → y < 8 → IsInRange s → AreWellFormed (selected y s)
selected_out y s low h =
    again_out s y (option_to_list (slice_get s.unacked (distance s.oldest y))) h low
    (one_of (Fits s.size_code) s.unacked (distance s.oldest y) h.fit)

-- ---- where the link then is

-- the same messages and numbers, and a link that has come up or is as it was
range_later : (s t : State) → IsInRange s → t.own ≡ s.own → t.size_code ≡ s.size_code → t.unacked ≡ s.unacked
    → t.oldest ≡ s.oldest → t.expected ≡ s.expected → (IsStarting t.phase → IsStarting s.phase) → IsInRange t
range_later s t h own size same oldest expected phase = record {
  own = subst IsAnnouncement (sym own) h.own;
  size_code = rw (size) h.size_code;
  fit = rw (same, size) h.fit;
  none_before = λ starts. rw (same) (h.none_before (phase starts));
  oldest = rw (oldest) h.oldest;
  expected = rw (expected) h.expected;
}

-- the link is up no more, or still
range_moved : (s t : State) → IsInRange s → t.own ≡ s.own → t.size_code ≡ s.size_code → t.unacked ≡ s.unacked
    → t.oldest ≡ s.oldest → t.expected ≡ s.expected → (IsStarting t.phase → ⊥) → IsInRange t
range_moved s t h own size same oldest expected phase =
    range_later s t h own size same oldest expected (λ starts. absurd (phase starts))

-- the start-up goes on: nothing is outstanding, and the size may be told
range_starting : (s t : State) (phase : Phase) → s.phase ≡ phase → IsStarting phase → IsInRange s → t.own ≡ s.own
    → t.size_code < SIZE_CODES → t.unacked ≡ s.unacked → t.oldest ≡ s.oldest → t.expected ≡ s.expected → IsInRange t
range_starting s t phase is starts h own size same oldest expected =
    let none : s.unacked ≡ [] = h.none_before (subst IsStarting (sym is) starts) in
    record {
      own = subst IsAnnouncement (sym own) h.own;
      size_code = size;
      fit = rw (same) (All-same (Fits t.size_code) s.unacked [] none (All-nil (Fits t.size_code)));
      none_before = λ still. rw (same) none;
      oldest = rw (oldest) h.oldest;
      expected = rw (expected) h.expected;
    }

range_struck : (count : ℕ) (s : State) → IsInRange s → IsInRange (struck count s)
range_struck count s h = record {
  own = h.own;
  size_code = h.size_code;
  fit = All-drop (Fits s.size_code) count s.unacked h.fit;
  none_before = λ starts. rw (h.none_before starts) (drop_all count [] (omega arith));
  oldest = omega arith;
  expected = h.expected;
}

range_if : (b : Bool) (s t : State) → IsInRange s → IsInRange t → IsInRange (if b then s else t)
range_if true s t h k = h
range_if false s t h k = k

range_acknowledged : (y : ℕ) (s : State) → IsInRange s → IsInRange (acknowledged y s)
range_acknowledged y s h =
    let count = distance s.oldest (y + 1) in
    range_if (count == 0) s _ h
    (range_if (nat_lt (length s.unacked) count) s (struck count s) h (range_struck count s h))

-- ---- packets

fine_ignored : (s : State) → IsInRange s → IsFine (ignored s)
fine_ignored s h = record { state = h; emitted = none_out }

window_number : (s : State) → IsInRange s → s.own.window < 8
window_number s h = omega (arith, h.own.window.1)

fine_init_a : (role : Role) (phase : Phase) (y : ℕ) (s : State) → s.phase ≡ phase → IsInRange s
    → IsFine (on_init_a role phase y s)
fine_init_a Caller AwaitsInitA y s is h = record {
  state = range_starting s _ AwaitsInitA is tt h refl h.size_code refl refl refl;
  emitted = only_out (init_b s.own.size_code) h.own.size_code;
}
fine_init_a Called AwaitsInitA y s is h = record {
  state = range_starting s _ AwaitsInitA is tt h refl h.size_code refl refl refl;
  emitted = only_out (init_a s.own.window) (window_number s h);
}
fine_init_a Called AwaitsInitB y s is h =
    record { state = h; emitted = only_out (init_a s.own.window) (window_number s h) }
fine_init_a _ _ y s is h = fine_ignored s h

fine_init_b : (role : Role) (phase : Phase) (y : ℕ) (s : State) → s.phase ≡ phase → y < 8 → IsInRange s
    → IsFine (on_init_b role phase y s)
fine_init_b Caller AwaitsInitB y s is low h = record {
  state = range_starting s _ AwaitsInitB is tt h refl low refl refl refl;
  emitted = only_out (init_c s.own.window) (window_number s h);
}
fine_init_b Called AwaitsInitB y s is low h = record {
  state = range_starting s _ AwaitsInitB is tt h refl low refl refl refl;
  emitted = only_out (init_b s.own.size_code) h.own.size_code;
}
fine_init_b Called AwaitsInitC y s is low h =
    record { state = h; emitted = only_out (init_b s.own.size_code) h.own.size_code }
fine_init_b _ _ y s is low h = fine_ignored s h

fine_init_c : (role : Role) (phase : Phase) (y : ℕ) (s : State) → s.phase ≡ phase → IsInRange s
    → IsFine (on_init_c role phase y s)
fine_init_c Caller AwaitsInitC y s is h = record {
  state = range_starting s _ AwaitsInitC is tt h refl h.size_code refl refl refl;
  emitted = none_out;
}
fine_init_c Called AwaitsInitC y s is h = record {
  state = range_starting s _ AwaitsInitC is tt h refl h.size_code refl refl refl;
  emitted = only_out (init_c s.own.window) (window_number s h);
}
fine_init_c Called Up y s is h =
    record { state = h; emitted = only_out (init_c s.own.window) (window_number s h) }
fine_init_c _ _ y s is h = fine_ignored s h

range_halted : (s : State) → IsInRange s → IsInRange (record s { phase = Halted })
range_halted s h = range_moved s _ h refl refl refl refl refl (λ none. none)

fine_close : (phase : Phase) (s : State) → IsInRange s → IsFine (on_close phase s)
fine_close Closing s h = record { state = range_halted s h; emitted = none_out }
fine_close _ s h = record { state = range_halted s h; emitted = only_out close tt }

fine_rr : (phase : Phase) (y : ℕ) (s : State) → IsInRange s → IsFine (on_rr phase y s)
fine_rr Up y s h = record { state = range_acknowledged y s h; emitted = none_out }
fine_rr _ y s h = fine_ignored s h

fine_rj : (phase : Phase) (y : ℕ) (s : State) → IsInRange s → IsFine (on_rj phase y s)
fine_rj Up y s h = record {
  state = range_acknowledged y s h;
  emitted = outstanding_out (acknowledged y s) (range_acknowledged y s h);
}
fine_rj _ y s h = fine_ignored s h

fine_srj : (phase : Phase) (y : ℕ) (s : State) → y < 8 → IsInRange s → IsFine (on_srj phase y s)
fine_srj Up y s low h = record { state = h; emitted = selected_out y s low h }
fine_srj _ y s low h = fine_ignored s h

-- a reject of the expected packet, and an acknowledgement of the last one received
received_number : (s : State) → last_received s < 8
received_number s = omega arith

fine_asking : (left : ℕ) (passed : Option ℕ) (s : State) → IsInRange s →
    IsFine (answers (keeping s left passed) (rr (last_received s)) nothing)
fine_asking left passed s h = record {
  state = range_later s _ h refl refl refl refl refl (λ starts. starts);
  emitted = only_out (rr (last_received s)) (received_number s);
}

fine_rejecting : (left : ℕ) (passed : Option ℕ) (s : State) → IsInRange s →
    IsFine (answers (keeping s left passed) (rj (last_received s)) nothing)
fine_rejecting left passed s h = record {
  state = range_later s _ h refl refl refl refl refl (λ starts. starts);
  emitted = only_out (rj (last_received s)) (received_number s);
}

range_taken : (left : ℕ) (s : State) → IsInRange s →
    IsInRange (record s { expected = (s.expected + 1) % 8; reject_left = left; passed = None; timeouts = 0 })
range_taken left s h = record {
  own = h.own;
  size_code = h.size_code;
  fit = h.fit;
  none_before = h.none_before;
  oldest = h.oldest;
  expected = omega arith;
}

fine_number : (x : ℕ) (s : State) → x < 8 → IsInRange s → IsFine (on_number x s)
fine_number x s low h =
    fine_either (is_expected x s) _ _ (record { state = range_taken (reject_left_after s) s h; emitted = only_out (rr x) low })
    (other_holds IsFine x s (λ left passed. fine_asking left passed s h) (λ left passed. fine_rejecting left passed s h)
    (λ left passed is. record {
      state = range_later s _ h refl refl refl refl refl (λ starts. starts);
      emitted = none_out;
    }))

fine_data : (phase : Phase) (seq ack : ℕ) (s : State) → seq < 8 → IsInRange s → IsFine (on_data phase seq ack s)
fine_data Up seq ack s low h = fine_number seq (acknowledged ack s) low (range_acknowledged ack s h)
fine_data _ seq ack s low h = fine_ignored s h

fine_packet : (p : PacketValue) (s : State) → IsWellFormed p → IsInRange s → IsFine (on_packet p s)
fine_packet (control close) s low h = fine_close s.phase s h
fine_packet (control (init_a y)) s low h =
    fine_either (y == 0) _ _ (fine_ignored s h) (fine_init_a s.role s.phase y s refl h)
fine_packet (control (init_b y)) s low h = fine_init_b s.role s.phase y s refl low h
fine_packet (control (init_c y)) s low h =
    fine_either (y == 0) _ _ (fine_ignored s h) (fine_init_c s.role s.phase y s refl h)
fine_packet (control (rj y)) s low h = fine_rj s.phase y s h
fine_packet (control (srj y)) s low h = fine_srj s.phase y s low h
fine_packet (control (rr y)) s low h = fine_rr s.phase y s h
fine_packet (carry seq ack k message) s low h = fine_data s.phase seq ack s low.0 h

-- ---- the other events

fine_bad : (phase : Phase) (s : State) → IsInRange s → IsFine (on_bad phase s)
fine_bad Up s h = fine_either (is_enough s) _ _ (fine_ignored s h) (fine_rejecting (until_over s) s.passed s h)
fine_bad _ s h = fine_ignored s h

repeated_out : (role : Role) (phase : Phase) (s : State) → IsInRange s → AreWellFormed (repeated role phase s)
repeated_out Caller AwaitsInitA s h = only_out (init_a s.own.window) (window_number s h)
repeated_out Caller AwaitsInitB s h = only_out (init_b s.own.size_code) h.own.size_code
repeated_out Caller AwaitsInitC s h = only_out (init_c s.own.window) (window_number s h)
repeated_out _ Up s h = outstanding_out s h
repeated_out _ Closing s h = only_out close tt
repeated_out _ _ s h = none_out

fine_timeout : (s : State) → IsInRange s → IsFine (on_timeout s)
fine_timeout s h =
    fine_either (nat_lt (s.timeouts + 1) TIMEOUTS_MAX) _ _
    (record {
      state = range_later s _ h refl refl refl refl refl (λ starts. starts);
      emitted = repeated_out s.role s.phase s h;
    })
    (record { state = range_moved s _ h refl refl refl refl refl (λ none. none); emitted = only_out close tt })

fine_begin : (s : State) → IsFresh s → IsInRange s → IsFine (on_event to_begin s)
fine_begin s fresh h = record {
  state = range_starting s _ Fresh fresh tt h refl h.size_code refl refl refl;
  emitted = only_out (init_a s.own.window) (window_number s h);
}

fine_send : (message : List ℕ) (s : State) → IsUp s → Fits s.size_code message → IsInRange s → IsFine (on_send message s)
fine_send message s up fits h = record {
  state = record {
    own = h.own;
    size_code = h.size_code;
    fit = All-append (Fits s.size_code) s.unacked (message ∷ []) h.fit
        (All-cons (Fits s.size_code) message [] fits (All-nil (Fits s.size_code)));
    none_before = λ starts. absurd (subst IsStarting up starts);
    oldest = h.oldest;
    expected = h.expected;
  };
  emitted = one_out (data_packet s (next_number s) message) true (data_well_formed s (next_number s) message h (omega arith) fits);
}

-- ---- the step

fine_event : (e : Event) (s : State) → IsInRange s → MayMeet s e → IsFine (on_event e s)
fine_event to_begin s h may = fine_begin s may h
fine_event (packet_found p) s h may = fine_packet p s may h
fine_event bad_found s h may = fine_bad s.phase s h
fine_event timed_out s h may = fine_timeout s h
fine_event (to_send message) s h may = fine_send message s may.0 may.1 h
fine_event to_close s h may = record {
  state = range_moved s _ h refl refl refl refl refl (λ none. none);
  emitted = only_out close tt;
}

fine : (s : State) (e : Event) → IsInRange s → MayMeet s e → IsFine (step s e)
fine s e h may =
    fine_either (is_halted s.phase) _ _ (record { state = h; emitted = none_out }) (fine_event e s h may)

pub range_stays : (s : State) (e : Event) → IsInRange s → MayMeet s e → IsInRange (step s e).state
range_stays s e h may = (fine s e h may).state

pub emits_well_formed : (s : State) (e : Event) → IsInRange s → MayMeet s e → AreWellFormed (step s e).emitted
emits_well_formed s e h may = (fine s e h may).emitted

-- ---- the first one

-- what the program announces is in its range
pub announcement_right : (a : Announce) → IsAnnouncement (announced a)
announcement_right a = record { window = a.in_range; size_code = a.size_code.below }

range_first : (role : Role) (phase : Phase) (own : Announced) → IsAnnouncement own → IsInRange (first_state role phase own)
range_first role phase own h = record {
  own = h;
  size_code = omega arith;
  fit = All-nil (Fits 0);
  none_before = λ starts. refl;
  oldest = omega arith;
  expected = omega arith;
}

pub range_at_first : (own : Announced) → IsAnnouncement own → IsInRange (caller_state own) × IsInRange (called_state own)
range_at_first own h = (range_first Caller Fresh own h, range_first Called AwaitsInitA own h)
