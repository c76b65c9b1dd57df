-- What this end has announced stays, and on a link that is up so do the size and the window.
use Rattle.std.proofs.Common.{◌≡◌, ℕ, ◌+◌, ◌==◌, nat_lt, Bool, true, false, if◌then◌else◌, length, refl, sym, subst}
use Rattle.uug_link.specs.State.{State, IsUp, IsStarting, is_halted}
use Rattle.uug_link.specs.Step.{Effect, Event, to_begin, packet_found, bad_found, timed_out, to_send, to_close, step, on_init_a, on_init_b, on_init_c, on_close, on_rr, on_rj, on_srj, on_data, on_number, is_expected, is_enough, on_bad, acknowledged, struck, distance, on_packet, on_event}
use Rattle.uug_link.specs.declared.limits.TheConstants.{TIMEOUTS_MAX}
use Rattle.uug_link.specs.declared.phase.Phase.{Phase}
use Rattle.uug_link.specs.declared.phase.Phase.TheVariants.{AwaitsInitA, AwaitsInitB, AwaitsInitC, Up, Closing}
use Rattle.uug_link.specs.declared.phase.Role.{Role}
use Rattle.uug_link.specs.declared.phase.Role.TheVariants.{Caller, Called}
use Rattle.uug_link.proofs.OtherLemmas.{other_holds}
use Rattle.uug_packet.specs.Packet.{close, rj, srj, rr, init_c, init_b, init_a, PacketValue, control, carry}

-- a link before and after
record Keeps (s t : State) : Type 0 where
  own : t.own ≡ s.own
  size : IsUp s → t.size_code ≡ s.size_code
  window : IsUp s → t.window ≡ s.window

keeps_same : (s t : State) → t.own ≡ s.own → t.size_code ≡ s.size_code → t.window ≡ s.window → Keeps s t
keeps_same s t own size window = record { own = own; size = λ is_up. size; window = λ is_up. window }

keeps_itself : (s : State) → Keeps s s
keeps_itself s = keeps_same s s refl refl refl

keeps_starting : (s t : State) (phase : Phase) → s.phase ≡ phase → IsStarting phase → t.own ≡ s.own → Keeps s t
keeps_starting s t phase is starts own =
    let none : IsUp s → ⊥ = λ is_up. subst IsStarting is_up (subst IsStarting (sym is) starts) in
    record { own = own; size = λ is_up. absurd (none is_up); window = λ is_up. absurd (none is_up) }

keeps_if : (s : State) (b : Bool) (t u : State) → Keeps s t → Keeps s u → Keeps s (if b then t else u)
keeps_if s true t u h k = h
keeps_if s false t u h k = k

keeps_either : (s : State) (b : Bool) (x y : Effect) → Keeps s x.state → Keeps s y.state →
    Keeps s (if b then x else y).state
keeps_either s true x y h k = h
keeps_either s false x y h k = k

-- ---- packets

keeps_init_a : (role : Role) (phase : Phase) (y : ℕ) (s : State) → s.phase ≡ phase →
    Keeps s (on_init_a role phase y s).state
keeps_init_a Caller AwaitsInitA y s is = keeps_starting s _ AwaitsInitA is tt refl
keeps_init_a Called AwaitsInitA y s is = keeps_starting s _ AwaitsInitA is tt refl
keeps_init_a _ _ y s is = keeps_itself s

keeps_init_b : (role : Role) (phase : Phase) (y : ℕ) (s : State) → s.phase ≡ phase →
    Keeps s (on_init_b role phase y s).state
keeps_init_b Caller AwaitsInitB y s is = keeps_starting s _ AwaitsInitB is tt refl
keeps_init_b Called AwaitsInitB y s is = keeps_starting s _ AwaitsInitB is tt refl
keeps_init_b _ _ y s is = keeps_itself s

keeps_init_c : (role : Role) (phase : Phase) (y : ℕ) (s : State) → s.phase ≡ phase →
    Keeps s (on_init_c role phase y s).state
keeps_init_c Caller AwaitsInitC y s is = keeps_starting s _ AwaitsInitC is tt refl
keeps_init_c Called AwaitsInitC y s is = keeps_starting s _ AwaitsInitC is tt refl
keeps_init_c _ _ y s is = keeps_itself s

keeps_close : (phase : Phase) (s : State) → Keeps s (on_close phase s).state
keeps_close Closing s = keeps_same s _ refl refl refl
keeps_close _ s = keeps_same s _ refl refl refl

keeps_acknowledged : (y : ℕ) (s : State) → Keeps s (acknowledged y s)
keeps_acknowledged y s =
    let count = distance s.oldest (y + 1) in
    keeps_if s (count == 0) s _ (keeps_itself s)
    (keeps_if s (nat_lt (length s.unacked) count) s (struck count s) (keeps_itself s) (keeps_same s _ refl refl refl))

keeps_rr : (phase : Phase) (y : ℕ) (s : State) → Keeps s (on_rr phase y s).state
keeps_rr Up y s = keeps_acknowledged y s
keeps_rr _ y s = keeps_itself s

keeps_rj : (phase : Phase) (y : ℕ) (s : State) → Keeps s (on_rj phase y s).state
keeps_rj Up y s = keeps_acknowledged y s
keeps_rj _ y s = keeps_itself s

keeps_srj : (phase : Phase) (y : ℕ) (s : State) → Keeps s (on_srj phase y s).state
keeps_srj Up y s = keeps_itself s
keeps_srj _ y s = keeps_itself s

keeps_number : (x : ℕ) (s t : State) → Keeps s t → Keeps s (on_number x t).state
keeps_number x s t h =
    keeps_either s (is_expected x t) _ _ (record { own = h.own; size = h.size; window = h.window })
    (other_holds (λ e. Keeps s e.state) x t (λ left passed. record { own = h.own; size = h.size; window = h.window })
    (λ left passed. record { own = h.own; size = h.size; window = h.window })
    (λ left passed is. record { own = h.own; size = h.size; window = h.window }))

keeps_data : (phase : Phase) (seq ack : ℕ) (s : State) → Keeps s (on_data phase seq ack s).state
keeps_data Up seq ack s = keeps_number seq s _ (keeps_acknowledged ack s)
keeps_data _ seq ack s = keeps_itself s

keeps_packet : (p : PacketValue) (s : State) → Keeps s (on_packet p s).state
keeps_packet (control close) s = keeps_close s.phase s
keeps_packet (control (init_a y)) s =
    keeps_either s (y == 0) _ _ (keeps_itself s) (keeps_init_a s.role s.phase y s refl)
keeps_packet (control (init_b y)) s = keeps_init_b s.role s.phase y s refl
keeps_packet (control (init_c y)) s =
    keeps_either s (y == 0) _ _ (keeps_itself s) (keeps_init_c s.role s.phase y s refl)
keeps_packet (control (rr y)) s = keeps_rr s.phase y s
keeps_packet (control (rj y)) s = keeps_rj s.phase y s
keeps_packet (control (srj y)) s = keeps_srj s.phase y s
keeps_packet (carry seq ack k message) s = keeps_data s.phase seq ack s

-- ---- the other events

keeps_bad : (phase : Phase) (s : State) → Keeps s (on_bad phase s).state
keeps_bad Up s = keeps_either s (is_enough s) _ _ (keeps_itself s) (keeps_same s _ refl refl refl)
keeps_bad _ s = keeps_itself s

keeps_event : (e : Event) (s : State) → Keeps s (on_event e s).state
keeps_event to_begin s = keeps_same s _ refl refl refl
keeps_event (packet_found p) s = keeps_packet p s
keeps_event bad_found s = keeps_bad s.phase s
keeps_event timed_out s =
    keeps_either s (nat_lt (s.timeouts + 1) TIMEOUTS_MAX) _ _ (keeps_same s _ refl refl refl)
    (keeps_same s _ refl refl refl)
keeps_event (to_send message) s = keeps_same s _ refl refl refl
keeps_event to_close s = keeps_same s _ refl refl refl

-- ---- the step

keeps_step : (s : State) (e : Event) → Keeps s (step s e).state
keeps_step s e = keeps_either s (is_halted s.phase) _ _ (keeps_itself s) (keeps_event e s)

pub own_stays : (s : State) (e : Event) → (step s e).state.own ≡ s.own
own_stays s e = (keeps_step s e).own

pub size_stays : (s : State) (e : Event) → IsUp s → (step s e).state.size_code ≡ s.size_code
size_stays s e = (keeps_step s e).size

pub window_stays : (s : State) (e : Event) → IsUp s → (step s e).state.window ≡ s.window
window_stays s e = (keeps_step s e).window
