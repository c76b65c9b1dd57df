-- Each data packet that a link emits has the smallest field for its message.
use Rattle.std.proofs.Common.{ℕ, ◌+◌, ◌%◌, ◌==◌, nat_lt, Bool, true, false, if◌then◌else◌, List, [], ◌∷◌, length}
use Rattle.uug_link.specs.declared.limits.TheConstants.{TIMEOUTS_MAX}
use Rattle.uug_link.specs.declared.phase.Phase.{Phase}
use Rattle.uug_link.specs.declared.phase.Phase.TheVariants.{AwaitsInitA, AwaitsInitB, AwaitsInitC, Up, Closing}
use Rattle.uug_link.specs.declared.phase.Role.{Role}
use Rattle.uug_link.specs.declared.phase.Role.TheVariants.{Caller, Called}
use Rattle.uug_link.specs.Fields.{HaveSmallestFields, IsSmallestFor}
use Rattle.uug_link.specs.State.{State, is_halted}
use Rattle.uug_link.specs.Step.{Effect, Event, to_begin, packet_found, bad_found, timed_out, to_send, to_close, step, on_init_a, on_init_b, on_init_c, on_close, on_rr, on_rj, on_srj, on_data, is_expected, is_enough, on_bad, acknowledged, data_packet, sent_again, repeated, on_packet, on_event}
use Rattle.uug_link.specs.Terms.{smallest_code}
use Rattle.uug_link.proofs.OtherLemmas.{other_holds}
use Rattle.uug_link.proofs.SmallestLemmas.{smallest_is_code, smallest_is_least, smallest_saves}
use Rattle.uug_packet.specs.Packet.{close, rj, srj, rr, init_c, init_b, init_a, PacketValue, control, carry}

small : (message : List ℕ) → IsSmallestFor message (smallest_code (length message))
small message = record {
  code = smallest_is_code (length message);
  least = smallest_is_least (length message);
  saves = smallest_saves (length message);
}

small_again : (s : State) (number : ℕ) (messages : List (List ℕ)) → HaveSmallestFields (sent_again (data_packet s) number messages)
small_again s number [] = tt
small_again s number (message ∷ messages) = (small message, small_again s ((number + 1) % 8) messages)

small_either : (b : Bool) (x y : Effect) → HaveSmallestFields x.emitted → HaveSmallestFields y.emitted →
    HaveSmallestFields (if b then x else y).emitted
small_either true x y h k = h
small_either false x y h k = k

-- ---- packets

small_init_a : (role : Role) (phase : Phase) (y : ℕ) (s : State) → HaveSmallestFields (on_init_a role phase y s).emitted
small_init_a Caller AwaitsInitA y s = (tt, tt)
small_init_a Called AwaitsInitA y s = (tt, tt)
small_init_a Called AwaitsInitB y s = (tt, tt)
small_init_a _ _ y s = tt

small_init_b : (role : Role) (phase : Phase) (y : ℕ) (s : State) → HaveSmallestFields (on_init_b role phase y s).emitted
small_init_b Caller AwaitsInitB y s = (tt, tt)
small_init_b Called AwaitsInitB y s = (tt, tt)
small_init_b Called AwaitsInitC y s = (tt, tt)
small_init_b _ _ y s = tt

small_init_c : (role : Role) (phase : Phase) (y : ℕ) (s : State) → HaveSmallestFields (on_init_c role phase y s).emitted
small_init_c Caller AwaitsInitC y s = tt
small_init_c Called AwaitsInitC y s = (tt, tt)
small_init_c Called Up y s = (tt, tt)
small_init_c _ _ y s = tt

small_close : (phase : Phase) (s : State) → HaveSmallestFields (on_close phase s).emitted
small_close Closing s = tt
small_close _ s = (tt, tt)

small_rr : (phase : Phase) (y : ℕ) (s : State) → HaveSmallestFields (on_rr phase y s).emitted
small_rr Up y s = tt
small_rr _ y s = tt

small_rj : (phase : Phase) (y : ℕ) (s : State) → HaveSmallestFields (on_rj phase y s).emitted
small_rj Up y s = small_again (acknowledged y s) _ (acknowledged y s).unacked
small_rj _ y s = tt

small_srj : (phase : Phase) (y : ℕ) (s : State) → HaveSmallestFields (on_srj phase y s).emitted
small_srj Up y s = small_again s y _
small_srj _ y s = tt

small_data : (phase : Phase) (seq ack : ℕ) (s : State) → HaveSmallestFields (on_data phase seq ack s).emitted
small_data Up seq ack s =
    let left = acknowledged ack s in
    small_either (is_expected seq left) _ _ (tt, tt)
    (other_holds (λ e. HaveSmallestFields e.emitted) seq left (λ rest passed. (tt, tt)) (λ rest passed. (tt, tt))
    (λ rest passed is. tt))
small_data _ seq ack s = tt

small_packet : (p : PacketValue) (s : State) → HaveSmallestFields (on_packet p s).emitted
small_packet (control close) s = small_close s.phase s
small_packet (control (init_a y)) s = small_either (y == 0) _ _ tt (small_init_a s.role s.phase y s)
small_packet (control (init_b y)) s = small_init_b s.role s.phase y s
small_packet (control (init_c y)) s = small_either (y == 0) _ _ tt (small_init_c s.role s.phase y s)
small_packet (control (rr y)) s = small_rr s.phase y s
small_packet (control (rj y)) s = small_rj s.phase y s
small_packet (control (srj y)) s = small_srj s.phase y s
small_packet (carry seq ack k message) s = small_data s.phase seq ack s

-- ---- the other events

small_bad : (phase : Phase) (s : State) → HaveSmallestFields (on_bad phase s).emitted
small_bad Up s = small_either (is_enough s) _ _ tt (tt, tt)
small_bad _ s = tt

small_repeated : (role : Role) (phase : Phase) (s : State) → HaveSmallestFields (repeated role phase s)
small_repeated Caller AwaitsInitA s = (tt, tt)
small_repeated Caller AwaitsInitB s = (tt, tt)
small_repeated Caller AwaitsInitC s = (tt, tt)
small_repeated _ Up s = small_again s s.oldest s.unacked
small_repeated _ Closing s = (tt, tt)
small_repeated _ _ s = tt

small_event : (e : Event) (s : State) → HaveSmallestFields (on_event e s).emitted
small_event to_begin s = (tt, tt)
small_event (packet_found p) s = small_packet p s
small_event bad_found s = small_bad s.phase s
small_event timed_out s =
    small_either (nat_lt (s.timeouts + 1) TIMEOUTS_MAX) _ _ (small_repeated s.role s.phase s) (tt, tt)
small_event (to_send message) s = (small message, tt)
small_event to_close s = (tt, tt)

-- ---- the step

pub smallest_out : (s : State) (e : Event) → HaveSmallestFields (step s e).emitted
smallest_out s e = small_either (is_halted s.phase) _ _ tt (small_event e s)
