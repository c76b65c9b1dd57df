-- What a link keeps of rejects stays within its bounds.
use Rattle.std.proofs.Common.{◌≡◌, ℕ, suc, pred, ◌+◌, ◌<◌, ◌≤◌, ◌==◌, nat_lt, Bool, true, false, if◌then◌else◌, Option, IfSome, length, refl, sym, subst, ap, arith}
use Rattle.uug_link.specs.Announced.{Announced}
use Rattle.uug_link.specs.InRange.{MayMeet}
use Rattle.uug_link.specs.State.{State, KeepsRejects, caller_state, called_state, is_halted}
use Rattle.uug_link.specs.Step.{Effect, Event, to_begin, packet_found, bad_found, timed_out, to_send, to_close, step, begins_anew, has_rejected, is_enough, is_expected, last_received, on_init_a, on_init_b, on_init_c, on_close, on_rr, on_rj, on_srj, on_data, on_number, on_repeat, on_bad, acknowledged, distance, struck, on_packet, on_event, until_over}
use Rattle.uug_link.specs.declared.limits.TheConstants.{TIMEOUTS_MAX}
use Rattle.uug_link.specs.declared.phase.Phase.{Phase}
use Rattle.uug_link.specs.declared.phase.Phase.TheVariants.{AwaitsInitA, AwaitsInitB, AwaitsInitC, Up, Closing}
use Rattle.uug_link.specs.declared.phase.Role.{Role}
use Rattle.uug_link.specs.declared.phase.Role.TheVariants.{Caller, Called}
use Rattle.uug_packet.specs.Packet.{close, rj, srj, rr, init_c, init_b, init_a, PacketValue, control, carry}
use Rattle.uug_packet.specs.WellFormed.{IsWellFormed}

-- other parts of the link change
same : (s t : State) → KeepsRejects s → t.reject_left ≡ s.reject_left → t.passed ≡ s.passed → t.own ≡ s.own → KeepsRejects t
same s t h told passed own = record {
  reject_left = omega (arith, h.reject_left, told, ap (λ (a : Announced). a.window) own);
  passed = subst (λ (p : Option ℕ). IfSome p (λ number. number < 8)) (sym passed) h.passed;
}

either : (b : Bool) (e f : Effect) → KeepsRejects e.state → KeepsRejects f.state → KeepsRejects (if b then e else f).state
either true e f h k = h
either false e f h k = k

if_so : (b : Bool) (s t : State) → KeepsRejects s → KeepsRejects t → KeepsRejects (if b then s else t)
if_so true s t h k = h
if_so false s t h k = k

at_most : (b : Bool) (m n most : ℕ) → m ≤ most → n ≤ most → (if b then m else n) ≤ most
at_most true m n most h k = h
at_most false m n most h k = k

-- ---- packets

keeps_init_a : (role : Role) (phase : Phase) (y : ℕ) (s : State) → KeepsRejects s → KeepsRejects (on_init_a role phase y s).state
keeps_init_a Caller AwaitsInitA y s h = same s _ h refl refl refl
keeps_init_a Called AwaitsInitA y s h = same s _ h refl refl refl
keeps_init_a _ _ y s h = h

keeps_init_b : (role : Role) (phase : Phase) (y : ℕ) (s : State) → KeepsRejects s → KeepsRejects (on_init_b role phase y s).state
keeps_init_b Caller AwaitsInitB y s h = same s _ h refl refl refl
keeps_init_b Called AwaitsInitB y s h = same s _ h refl refl refl
keeps_init_b _ _ y s h = h

keeps_init_c : (role : Role) (phase : Phase) (y : ℕ) (s : State) → KeepsRejects s → KeepsRejects (on_init_c role phase y s).state
keeps_init_c Caller AwaitsInitC y s h = same s _ h refl refl refl
keeps_init_c Called AwaitsInitC y s h = same s _ h refl refl refl
keeps_init_c _ _ y s h = h

keeps_close : (phase : Phase) (s : State) → KeepsRejects s → KeepsRejects (on_close phase s).state
keeps_close Closing s h = same s _ h refl refl refl
keeps_close _ s h = same s _ h refl refl refl

keeps_acknowledged : (y : ℕ) (s : State) → KeepsRejects s → KeepsRejects (acknowledged y s)
keeps_acknowledged y s h =
    let count = distance s.oldest (y + 1) in
    if_so (count == 0) s _ h
    (if_so (nat_lt (length s.unacked) count) s (struck count s) h (same s _ h refl refl refl))

keeps_rr : (phase : Phase) (y : ℕ) (s : State) → KeepsRejects s → KeepsRejects (on_rr phase y s).state
keeps_rr Up y s h = keeps_acknowledged y s h
keeps_rr _ y s h = h

keeps_rj : (phase : Phase) (y : ℕ) (s : State) → KeepsRejects s → KeepsRejects (on_rj phase y s).state
keeps_rj Up y s h = keeps_acknowledged y s h
keeps_rj _ y s h = h

keeps_srj : (phase : Phase) (y : ℕ) (s : State) → KeepsRejects s → KeepsRejects (on_srj phase y s).state
keeps_srj Up y s h = h
keeps_srj _ y s h = h

less_one : (n most : ℕ) → n ≤ most → pred n ≤ most
less_one n most h = omega (arith, h)

keeps_repeat : (x : ℕ) (s : State) → x < 8 → KeepsRejects s → KeepsRejects (on_repeat x s).state
keeps_repeat x s low h =
    either (has_rejected s) _ _
    (either (begins_anew s.passed x s) _ _ (record { reject_left = omega arith; passed = low })
    (record { reject_left = h.reject_left; passed = low }))
    (either (x == last_received s) _ _ (record { reject_left = omega arith; passed = low })
    (record { reject_left = omega arith; passed = low }))

keeps_rejecting : (s : State) → KeepsRejects s → KeepsRejects (record s { reject_left = until_over s })
keeps_rejecting s h = record { reject_left = omega arith; passed = h.passed }

keeps_number : (x : ℕ) (s : State) → x < 8 → KeepsRejects s → KeepsRejects (on_number x s).state
keeps_number x s low h =
    either (is_expected x s) _ _
    (record {
      reject_left = at_most s.own.quiet (pred s.reject_left) 0 (suc s.own.window) (less_one s.reject_left (suc s.own.window) h.reject_left) (omega arith);
      passed = tt;
    })
    (either s.own.quiet (on_repeat x s) _ (keeps_repeat x s low h)
    (either (has_rejected s) _ _ h (keeps_rejecting s h)))

keeps_data : (phase : Phase) (seq ack : ℕ) (s : State) → seq < 8 → KeepsRejects s → KeepsRejects (on_data phase seq ack s).state
keeps_data Up seq ack s low h = keeps_number seq (acknowledged ack s) low (keeps_acknowledged ack s h)
keeps_data _ seq ack s low h = h

keeps_packet : (p : PacketValue) (s : State) → IsWellFormed p → KeepsRejects s → KeepsRejects (on_packet p s).state
keeps_packet (control close) s may h = keeps_close s.phase s h
keeps_packet (control (init_a y)) s may h = either (y == 0) _ _ h (keeps_init_a s.role s.phase y s h)
keeps_packet (control (init_b y)) s may h = keeps_init_b s.role s.phase y s h
keeps_packet (control (init_c y)) s may h = either (y == 0) _ _ h (keeps_init_c s.role s.phase y s h)
keeps_packet (control (rr y)) s may h = keeps_rr s.phase y s h
keeps_packet (control (rj y)) s may h = keeps_rj s.phase y s h
keeps_packet (control (srj y)) s may h = keeps_srj s.phase y s h
keeps_packet (carry seq ack k message) s may h = keeps_data s.phase seq ack s may.0 h

-- ---- the other events

keeps_bad : (phase : Phase) (s : State) → KeepsRejects s → KeepsRejects (on_bad phase s).state
keeps_bad Up s h = either (is_enough s) _ _ h (keeps_rejecting s h)
keeps_bad _ s h = h

keeps_event : (e : Event) (s : State) → MayMeet s e → KeepsRejects s → KeepsRejects (on_event e s).state
keeps_event to_begin s may h = same s _ h refl refl refl
keeps_event (packet_found p) s may h = keeps_packet p s may h
keeps_event bad_found s may h = keeps_bad s.phase s h
keeps_event timed_out s may h =
    either (nat_lt (s.timeouts + 1) TIMEOUTS_MAX) _ _ (record { reject_left = omega arith; passed = h.passed })
    (record { reject_left = omega arith; passed = h.passed })
keeps_event (to_send message) s may h = same s _ h refl refl refl
keeps_event to_close s may h = same s _ h refl refl refl

-- ---- the step

pub rejects_stay : (s : State) (e : Event) → KeepsRejects s → MayMeet s e → KeepsRejects (step s e).state
rejects_stay s e h may = either (is_halted s.phase) _ _ h (keeps_event e s may h)

pub rejects_first : (own : Announced) → KeepsRejects (caller_state own) × KeepsRejects (called_state own)
rejects_first own = (record { reject_left = omega arith; passed = tt }, record { reject_left = omega arith; passed = tt })
