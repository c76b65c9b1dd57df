-- What each event may answer, and where the link then is.
use Rattle.std.proofs.Common.{◌≡◌, ◌≢◌, ℕ, ◌+◌, ◌%◌, ◌==◌, nat_lt, Bool, true, false, if◌then◌else◌, List, [], ◌∷◌, inl, inr, refl, ap, sym, subst, ◌∙◌, true≢false}
use Rattle.uug_link.specs.Outcomes.{MayAnswer, IsComing, MovesPhase, NoneIsFirst, FirstBySend}
use Rattle.uug_link.specs.State.{State, IsFresh, IsUp, IsStarting, is_halted}
use Rattle.uug_link.specs.Step.{Effect, Event, to_begin, packet_found, bad_found, timed_out, to_send, to_close, step, ignored, answers_halted, on_init_a, on_init_b, on_init_c, on_close, on_rr, on_rj, on_srj, on_data, is_expected, is_enough, on_bad, acknowledged, struck, distance, repeated, on_timeout, on_packet, sent_again}
use Rattle.uug_link.specs.declared.limits.TheConstants.{TIMEOUTS_MAX}
use Rattle.uug_link.specs.declared.phase.Phase.{Phase}
use Rattle.uug_link.specs.declared.phase.Phase.TheVariants.{Fresh, AwaitsInitA, AwaitsInitB, AwaitsInitC, Up, Closing, Halted}
use Rattle.uug_link.specs.declared.phase.Role.{Role}
use Rattle.uug_link.specs.declared.phase.Role.TheVariants.{Caller, Called}
use Rattle.uug_link.proofs.OtherLemmas.{other_holds}
use Rattle.uug_packet.specs.Packet.{close, rj, srj, rr, init_c, init_b, init_a, PacketValue, control, carry}

-- the effect of an event on a link
record IsFine (e : Event) (s : State) (x : Effect) : Type 0 where
  answers : MayAnswer x.outcome e
  moves : IsComing e → MovesPhase x.outcome s.phase x.state.phase
  firsts : FirstBySend e x.emitted

fine_either : (e : Event) (s : State) (t : Bool) (x y : Effect) → IsFine e s x → IsFine e s y →
    IsFine e s (if t then x else y)
fine_either e s true x y h k = h
fine_either e s false x y h k = k

-- ---- the phase

halted_told : (phase : Phase) → is_halted phase ≡ true → phase ≡ Halted
halted_told Halted h = refl
halted_told Fresh h = absurd (true≢false (sym h))
halted_told AwaitsInitA h = absurd (true≢false (sym h))
halted_told AwaitsInitB h = absurd (true≢false (sym h))
halted_told AwaitsInitC h = absurd (true≢false (sym h))
halted_told Up h = absurd (true≢false (sym h))
halted_told Closing h = absurd (true≢false (sym h))

not_halted_told : (phase : Phase) → is_halted phase ≡ false → phase ≢ Halted
not_halted_told phase h is = true≢false (sym (ap is_halted is) ∙ h)

phase_if : (t : Bool) (s x y : State) → x.phase ≡ s.phase → y.phase ≡ s.phase → (if t then x else y).phase ≡ s.phase
phase_if true s x y h k = h
phase_if false s x y h k = k

acknowledged_phase : (y : ℕ) (s : State) → (acknowledged y s).phase ≡ s.phase
acknowledged_phase y s =
    let count = distance s.oldest (y + 1) in
    phase_if (count == 0) s s _ refl (phase_if _ s s (struck count s) refl refl)

sent_again_firsts : (packet_of : ℕ → List ℕ → PacketValue) (number : ℕ) (ms : List (List ℕ)) →
    NoneIsFirst (sent_again packet_of number ms)
sent_again_firsts packet_of number [] = tt
sent_again_firsts packet_of number (m ∷ ms) = (refl, sent_again_firsts packet_of ((number + 1) % 8) ms)

-- ---- packets

fine_ignored : (p : PacketValue) (s : State) → s.phase ≢ Halted → IsFine (packet_found p) s (ignored s)
fine_ignored p s runs = record { answers = tt; moves = λ c. (runs, inl refl); firsts = tt }

fine_init_a : (y : ℕ) (s : State) (role : Role) (phase : Phase) → s.phase ≡ phase → s.phase ≢ Halted →
    IsFine (packet_found (control (init_a y))) s (on_init_a role phase y s)
fine_init_a y s Caller AwaitsInitA is runs =
    record { answers = tt; moves = λ c. (runs, inr (subst IsStarting (sym is) tt, tt)); firsts = (refl, tt) }
fine_init_a y s Called AwaitsInitA is runs =
    record { answers = tt; moves = λ c. (runs, inr (subst IsStarting (sym is) tt, tt)); firsts = (refl, tt) }
fine_init_a y s Called AwaitsInitB is runs =
    record { answers = tt; moves = λ c. (runs, inl refl); firsts = (refl, tt) }
fine_init_a y s _ _ is runs = fine_ignored (control (init_a y)) s runs

fine_init_b : (y : ℕ) (s : State) (role : Role) (phase : Phase) → s.phase ≡ phase → s.phase ≢ Halted →
    IsFine (packet_found (control (init_b y))) s (on_init_b role phase y s)
fine_init_b y s Caller AwaitsInitB is runs =
    record { answers = tt; moves = λ c. (runs, inr (subst IsStarting (sym is) tt, tt)); firsts = (refl, tt) }
fine_init_b y s Called AwaitsInitB is runs =
    record { answers = tt; moves = λ c. (runs, inr (subst IsStarting (sym is) tt, tt)); firsts = (refl, tt) }
fine_init_b y s Called AwaitsInitC is runs =
    record { answers = tt; moves = λ c. (runs, inl refl); firsts = (refl, tt) }
fine_init_b y s _ _ is runs = fine_ignored (control (init_b y)) s runs

fine_init_c : (y : ℕ) (s : State) (role : Role) (phase : Phase) → s.phase ≡ phase → s.phase ≢ Halted →
    IsFine (packet_found (control (init_c y))) s (on_init_c role phase y s)
fine_init_c y s Caller AwaitsInitC is runs = record { answers = tt; moves = λ c. (is, refl); firsts = tt }
fine_init_c y s Called AwaitsInitC is runs = record { answers = tt; moves = λ c. (is, refl); firsts = (refl, tt) }
fine_init_c y s Called Up is runs = record { answers = tt; moves = λ c. (runs, inl refl); firsts = (refl, tt) }
fine_init_c y s _ _ is runs = fine_ignored (control (init_c y)) s runs

fine_close : (s : State) (phase : Phase) → s.phase ≢ Halted → IsFine (packet_found (control close)) s (on_close phase s)
fine_close s Closing runs = record { answers = tt; moves = λ c. (runs, refl); firsts = tt }
fine_close s _ runs = record { answers = tt; moves = λ c. (runs, refl); firsts = (refl, tt) }

fine_rr : (y : ℕ) (s : State) (phase : Phase) → s.phase ≢ Halted → IsFine (packet_found (control (rr y))) s (on_rr phase y s)
fine_rr y s Up runs = record { answers = tt; moves = λ c. (runs, inl (acknowledged_phase y s)); firsts = tt }
fine_rr y s _ runs = fine_ignored (control (rr y)) s runs

fine_rj : (y : ℕ) (s : State) (phase : Phase) → s.phase ≢ Halted → IsFine (packet_found (control (rj y))) s (on_rj phase y s)
fine_rj y s Up runs = record {
  answers = tt;
  moves = λ c. (runs, inl (acknowledged_phase y s));
  firsts = sent_again_firsts _ _ (acknowledged y s).unacked;
}
fine_rj y s _ runs = fine_ignored (control (rj y)) s runs

fine_srj : (y : ℕ) (s : State) (phase : Phase) → s.phase ≢ Halted → IsFine (packet_found (control (srj y))) s (on_srj phase y s)
fine_srj y s Up runs = record {
  answers = tt;
  moves = λ c. (runs, inl refl);
  firsts = sent_again_firsts _ _ _;
}
fine_srj y s _ runs = fine_ignored (control (srj y)) s runs

fine_data : (seq ack k : ℕ) (message : List ℕ) (s : State) (phase : Phase) → s.phase ≡ phase → s.phase ≢ Halted →
    IsFine (packet_found (carry seq ack k message)) s (on_data phase seq ack s)
fine_data seq ack k message s Up is runs =
    let e : Event = packet_found (carry seq ack k message) in
    let t : State = acknowledged ack s in
    let stays : t.phase ≡ s.phase = acknowledged_phase ack s in
    fine_either e s (is_expected seq t) _ _
    (record { answers = tt; moves = λ c. (is, stays ∙ is); firsts = (refl, tt) })
    (other_holds (IsFine e s) seq t
    (λ left passed. record { answers = tt; moves = λ c. (runs, inl stays); firsts = (refl, tt) })
    (λ left passed. record { answers = tt; moves = λ c. (runs, inl stays); firsts = (refl, tt) })
    (λ left passed is. record { answers = tt; moves = λ c. (runs, inl stays); firsts = tt }))
fine_data seq ack k message s _ is runs = fine_ignored (carry seq ack k message) s runs

fine_packet : (p : PacketValue) (s : State) → s.phase ≢ Halted → IsFine (packet_found p) s (on_packet p s)
fine_packet (control close) s runs = fine_close s s.phase runs
fine_packet (control (init_a y)) s runs =
    fine_either (packet_found (control (init_a y))) s (y == 0) _ _ (fine_ignored (control (init_a y)) s runs)
    (fine_init_a y s s.role s.phase refl runs)
fine_packet (control (init_b y)) s runs = fine_init_b y s s.role s.phase refl runs
fine_packet (control (init_c y)) s runs =
    fine_either (packet_found (control (init_c y))) s (y == 0) _ _ (fine_ignored (control (init_c y)) s runs)
    (fine_init_c y s s.role s.phase refl runs)
fine_packet (control (rr y)) s runs = fine_rr y s s.phase runs
fine_packet (control (rj y)) s runs = fine_rj y s s.phase runs
fine_packet (control (srj y)) s runs = fine_srj y s s.phase runs
fine_packet (carry seq ack k message) s runs = fine_data seq ack k message s s.phase refl runs

-- ---- the other events

fine_bad : (s : State) (phase : Phase) → s.phase ≢ Halted → IsFine bad_found s (on_bad phase s)
fine_bad s Up runs =
    fine_either bad_found s (is_enough s) _ _ (record { answers = tt; moves = λ c. (runs, inl refl); firsts = tt })
    (record { answers = tt; moves = λ c. (runs, inl refl); firsts = (refl, tt) })
fine_bad s _ runs = record { answers = tt; moves = λ c. (runs, inl refl); firsts = tt }

repeated_firsts : (role : Role) (phase : Phase) (s : State) → NoneIsFirst (repeated role phase s)
repeated_firsts Caller AwaitsInitA s = (refl, tt)
repeated_firsts Caller AwaitsInitB s = (refl, tt)
repeated_firsts Caller AwaitsInitC s = (refl, tt)
repeated_firsts _ Up s = sent_again_firsts _ _ s.unacked
repeated_firsts _ Closing s = (refl, tt)
repeated_firsts _ _ s = tt

fine_timeout : (s : State) → s.phase ≢ Halted → IsFine timed_out s (on_timeout s)
fine_timeout s runs =
    fine_either timed_out s (nat_lt (s.timeouts + 1) TIMEOUTS_MAX) _ _
    (record { answers = tt; moves = λ c. (runs, inl refl); firsts = repeated_firsts s.role s.phase s })
    (record { answers = tt; moves = λ c. (runs, refl); firsts = (refl, tt) })

-- ---- the step

fine_step : (e : Event) (s : State) (y : Effect) (t : Bool) → is_halted s.phase ≡ t → FirstBySend e [] →
    (s.phase ≢ Halted → IsFine e s y) → IsFine e s (if t then answers_halted s else y)
fine_step e s y true is none h =
    record { answers = tt; moves = λ c. (halted_told s.phase is, halted_told s.phase is); firsts = none }
fine_step e s y false is none h = h (not_halted_told s.phase is)

fine : (s : State) (e : Event) → IsFine e s (step s e)
fine s to_begin = fine_step to_begin s _ (is_halted s.phase) refl tt
    (λ runs. record { answers = tt; moves = λ c. absurd c; firsts = (refl, tt) })
fine s (packet_found p) = fine_step (packet_found p) s _ (is_halted s.phase) refl tt (fine_packet p s)
fine s bad_found = fine_step bad_found s _ (is_halted s.phase) refl tt (fine_bad s s.phase)
fine s timed_out = fine_step timed_out s _ (is_halted s.phase) refl tt (fine_timeout s)
fine s (to_send message) = fine_step (to_send message) s _ (is_halted s.phase) refl tt
    (λ runs. record { answers = tt; moves = λ c. absurd c; firsts = tt })
fine s to_close = fine_step to_close s _ (is_halted s.phase) refl tt
    (λ runs. record { answers = tt; moves = λ c. absurd c; firsts = (refl, tt) })

pub answers_of : (s : State) (e : Event) → MayAnswer (step s e).outcome e
answers_of s e = (fine s e).answers

pub moves_of : (s : State) (e : Event) → IsComing e → MovesPhase (step s e).outcome s.phase (step s e).state.phase
moves_of s e = (fine s e).moves

pub firsts_of : (s : State) (e : Event) → FirstBySend e (step s e).emitted
firsts_of s e = (fine s e).firsts

if_halted : (t : Bool) (s : State) (y : Effect) → t ≡ true → (if t then answers_halted s else y) ≡ answers_halted s
if_halted true s y h = refl
if_halted false s y h = absurd (true≢false (sym h))

pub halted_stays : (s : State) (e : Event) → s.phase ≡ Halted → step s e ≡ answers_halted s
halted_stays s e h = if_halted (is_halted s.phase) s _ (ap is_halted h)

if_runs : (t : Bool) (s : State) (y : Effect) → t ≡ false → (if t then answers_halted s else y).state.phase ≡ y.state.phase
if_runs true s y h = absurd (true≢false h)
if_runs false s y h = refl

pub begin_phase : (s : State) → IsFresh s → (step s to_begin).state.phase ≡ AwaitsInitA
begin_phase s h = if_runs (is_halted s.phase) s _ (ap is_halted h)

pub send_phase : (s : State) (message : List ℕ) → IsUp s → (step s (to_send message)).state.phase ≡ Up
send_phase s message h = if_runs (is_halted s.phase) s _ (ap is_halted h) ∙ h

pub close_phase : (s : State) → IsUp s → (step s to_close).state.phase ≡ Closing
close_phase s h = if_runs (is_halted s.phase) s _ (ap is_halted h)
