-- Each step strikes the oldest packets or none, and leaves the others as they were written.
use Rattle.std.proofs.Common.{◌≡◌, ℕ, ◌+◌, ◌%◌, ◌<◌, ◌==◌, nat_lt, if◌then◌else◌, Bool, true, false, ◌∙◌, inl, inr, length, refl, sym, subst, arith}
use Rattle.uug_link.specs.declared.limits.TheConstants.{TIMEOUTS_MAX}
use Rattle.uug_link.specs.declared.phase.Phase.{Phase}
use Rattle.uug_link.specs.declared.phase.Phase.TheVariants.{Fresh, AwaitsInitA, AwaitsInitB, AwaitsInitC, Up, Closing, Halted}
use Rattle.uug_link.specs.declared.phase.Role.{Role}
use Rattle.uug_link.specs.declared.phase.Role.TheVariants.{Caller, Called}
use Rattle.uug_link.specs.Slots.{Keeps}
use Rattle.uug_link.specs.State.{State, IsSound, IsStarting, is_halted}
use Rattle.uug_link.specs.Step.{Effect, step, packet_found, bad_found, timed_out, on_init_a, on_init_b, on_init_c, on_close, on_rr, on_rj, on_srj, on_data, on_number, is_expected, is_enough, on_bad, acknowledged, struck, distance, on_timeout, on_control, on_packet}
use Rattle.uug_link.proofs.OtherLemmas.{other_holds}
use Rattle.uug_packet.specs.Packet.{ControlValue, close, rj, srj, rr, init_c, init_b, init_a, PacketValue, control, carry}

-- what a step may count on
pub record IsSteady (s : State) : Type 0 where
  pub sound : IsSound s
  pub oldest : s.oldest < 8

-- the same packets, under the same number
keeps-same : (s t : State) → IsSteady s → t.unacked ≡ s.unacked → t.oldest ≡ s.oldest → Keeps s t
keeps-same s t h same oldest =
    let at : s.oldest ≡ (s.oldest + 0) % 8 = omega (arith, h.oldest) in
    inr (record { struck = 0; unacked = same; oldest = oldest ∙ at })

keeps-self : (s : State) → IsSteady s → Keeps s s
keeps-self s h = keeps-same s s h refl refl

-- and so a change of anything else later
keeps-later : (s t u : State) → Keeps s t → u.unacked ≡ t.unacked → u.oldest ≡ t.oldest → Keeps s u
keeps-later s t u (inl none) same oldest = inl (same ∙ none)
keeps-later s t u (inr kept) same oldest = inr (record {
  struck = kept.struck;
  unacked = same ∙ kept.unacked;
  oldest = oldest ∙ kept.oldest;
})

-- before the link is up nothing is outstanding
keeps-starting : (s t : State) (phase : Phase) → s.phase ≡ phase → IsStarting phase → IsSteady s → t.unacked ≡ s.unacked → Keeps s t
keeps-starting s t phase is starts h same = inl (same ∙ h.sound.none_before (subst IsStarting (sym is) starts))

keeps-init_a : (role : Role) (phase : Phase) (y : ℕ) (s : State) → s.phase ≡ phase → IsSteady s → Keeps s (on_init_a role phase y s).state
keeps-init_a Caller Fresh y s is h = keeps-self s h
keeps-init_a Caller AwaitsInitA y s is h = keeps-starting s _ AwaitsInitA is tt h refl
keeps-init_a Caller AwaitsInitB y s is h = keeps-self s h
keeps-init_a Caller AwaitsInitC y s is h = keeps-self s h
keeps-init_a Caller Up y s is h = keeps-self s h
keeps-init_a Caller Closing y s is h = keeps-self s h
keeps-init_a Caller Halted y s is h = keeps-self s h
keeps-init_a Called Fresh y s is h = keeps-self s h
keeps-init_a Called AwaitsInitA y s is h = keeps-starting s _ AwaitsInitA is tt h refl
keeps-init_a Called AwaitsInitB y s is h = keeps-self s h
keeps-init_a Called AwaitsInitC y s is h = keeps-self s h
keeps-init_a Called Up y s is h = keeps-self s h
keeps-init_a Called Closing y s is h = keeps-self s h
keeps-init_a Called Halted y s is h = keeps-self s h

keeps-init_b : (role : Role) (phase : Phase) (y : ℕ) (s : State) → s.phase ≡ phase → IsSteady s → Keeps s (on_init_b role phase y s).state
keeps-init_b Caller Fresh y s is h = keeps-self s h
keeps-init_b Caller AwaitsInitA y s is h = keeps-self s h
keeps-init_b Caller AwaitsInitB y s is h = keeps-starting s _ AwaitsInitB is tt h refl
keeps-init_b Caller AwaitsInitC y s is h = keeps-self s h
keeps-init_b Caller Up y s is h = keeps-self s h
keeps-init_b Caller Closing y s is h = keeps-self s h
keeps-init_b Caller Halted y s is h = keeps-self s h
keeps-init_b Called Fresh y s is h = keeps-self s h
keeps-init_b Called AwaitsInitA y s is h = keeps-self s h
keeps-init_b Called AwaitsInitB y s is h = keeps-starting s _ AwaitsInitB is tt h refl
keeps-init_b Called AwaitsInitC y s is h = keeps-self s h
keeps-init_b Called Up y s is h = keeps-self s h
keeps-init_b Called Closing y s is h = keeps-self s h
keeps-init_b Called Halted y s is h = keeps-self s h

keeps-init_c : (role : Role) (phase : Phase) (y : ℕ) (s : State) → s.phase ≡ phase → IsSteady s → Keeps s (on_init_c role phase y s).state
keeps-init_c Caller Fresh y s is h = keeps-self s h
keeps-init_c Caller AwaitsInitA y s is h = keeps-self s h
keeps-init_c Caller AwaitsInitB y s is h = keeps-self s h
keeps-init_c Caller AwaitsInitC y s is h = keeps-starting s _ AwaitsInitC is tt h refl
keeps-init_c Caller Up y s is h = keeps-self s h
keeps-init_c Caller Closing y s is h = keeps-self s h
keeps-init_c Caller Halted y s is h = keeps-self s h
keeps-init_c Called Fresh y s is h = keeps-self s h
keeps-init_c Called AwaitsInitA y s is h = keeps-self s h
keeps-init_c Called AwaitsInitB y s is h = keeps-self s h
keeps-init_c Called AwaitsInitC y s is h = keeps-starting s _ AwaitsInitC is tt h refl
keeps-init_c Called Up y s is h = keeps-self s h
keeps-init_c Called Closing y s is h = keeps-self s h
keeps-init_c Called Halted y s is h = keeps-self s h

keeps-close : (phase : Phase) (s : State) → IsSteady s → Keeps s (on_close phase s).state
keeps-close Fresh s h = keeps-same s _ h refl refl
keeps-close AwaitsInitA s h = keeps-same s _ h refl refl
keeps-close AwaitsInitB s h = keeps-same s _ h refl refl
keeps-close AwaitsInitC s h = keeps-same s _ h refl refl
keeps-close Up s h = keeps-same s _ h refl refl
keeps-close Closing s h = keeps-same s _ h refl refl
keeps-close Halted s h = keeps-same s _ h refl refl

keeps-struck : (count : ℕ) (s : State) → Keeps s (struck count s)
keeps-struck count s = inr (record { struck = count; unacked = refl; oldest = refl })

keeps-if : (s : State) (b : Bool) (t u : State) → Keeps s t → Keeps s u → Keeps s (if b then t else u)
keeps-if s true t u h k = h
keeps-if s false t u h k = k

keeps-acknowledged : (y : ℕ) (s : State) → IsSteady s → Keeps s (acknowledged y s)
keeps-acknowledged y s h =
    let count = distance s.oldest (y + 1) in
    keeps-if s (count == 0) s _ (keeps-self s h)
    (keeps-if s (nat_lt (length s.unacked) count) s (struck count s) (keeps-self s h) (keeps-struck count s))

keeps-rr : (phase : Phase) (y : ℕ) (s : State) → IsSteady s → Keeps s (on_rr phase y s).state
keeps-rr Fresh y s h = keeps-self s h
keeps-rr AwaitsInitA y s h = keeps-self s h
keeps-rr AwaitsInitB y s h = keeps-self s h
keeps-rr AwaitsInitC y s h = keeps-self s h
keeps-rr Up y s h = keeps-acknowledged y s h
keeps-rr Closing y s h = keeps-self s h
keeps-rr Halted y s h = keeps-self s h

keeps-rj : (phase : Phase) (y : ℕ) (s : State) → IsSteady s → Keeps s (on_rj phase y s).state
keeps-rj Fresh y s h = keeps-self s h
keeps-rj AwaitsInitA y s h = keeps-self s h
keeps-rj AwaitsInitB y s h = keeps-self s h
keeps-rj AwaitsInitC y s h = keeps-self s h
keeps-rj Up y s h = keeps-acknowledged y s h
keeps-rj Closing y s h = keeps-self s h
keeps-rj Halted y s h = keeps-self s h

keeps-srj : (phase : Phase) (y : ℕ) (s : State) → IsSteady s → Keeps s (on_srj phase y s).state
keeps-srj Fresh y s h = keeps-self s h
keeps-srj AwaitsInitA y s h = keeps-self s h
keeps-srj AwaitsInitB y s h = keeps-self s h
keeps-srj AwaitsInitC y s h = keeps-self s h
keeps-srj Up y s h = keeps-self s h
keeps-srj Closing y s h = keeps-self s h
keeps-srj Halted y s h = keeps-self s h

-- the effect of a branch, where both keep them
keeps-either : (s : State) (b : Bool) (e f : Effect) → Keeps s e.state → Keeps s f.state → Keeps s (if b then e else f).state
keeps-either s true e f h k = h
keeps-either s false e f h k = k

keeps-number : (x : ℕ) (s t : State) → Keeps s t → Keeps s (on_number x t).state
keeps-number x s t h =
    keeps-either s (is_expected x t) _ _ (keeps-later s t _ h refl refl)
    (other_holds (λ e. Keeps s e.state) x t (λ left passed. keeps-later s t _ h refl refl)
    (λ left passed. keeps-later s t _ h refl refl) (λ left passed is. keeps-later s t _ h refl refl))

keeps-data : (phase : Phase) (x y : ℕ) (s : State) → IsSteady s → Keeps s (on_data phase x y s).state
keeps-data Fresh x y s h = keeps-self s h
keeps-data AwaitsInitA x y s h = keeps-self s h
keeps-data AwaitsInitB x y s h = keeps-self s h
keeps-data AwaitsInitC x y s h = keeps-self s h
keeps-data Up x y s h = keeps-number x s _ (keeps-acknowledged y s h)
keeps-data Closing x y s h = keeps-self s h
keeps-data Halted x y s h = keeps-self s h

keeps-bad : (phase : Phase) (s : State) → IsSteady s → Keeps s (on_bad phase s).state
keeps-bad Fresh s h = keeps-self s h
keeps-bad AwaitsInitA s h = keeps-self s h
keeps-bad AwaitsInitB s h = keeps-self s h
keeps-bad AwaitsInitC s h = keeps-self s h
keeps-bad Up s h = keeps-either s (is_enough s) _ _ (keeps-self s h) (keeps-same s _ h refl refl)
keeps-bad Closing s h = keeps-self s h
keeps-bad Halted s h = keeps-self s h

keeps-control : (c : ControlValue) (s : State) → IsSteady s → Keeps s (on_control c s).state
keeps-control close s h = keeps-close s.phase s h
keeps-control (init_a y) s h = keeps-either s (y == 0) _ _ (keeps-self s h) (keeps-init_a s.role s.phase y s refl h)
keeps-control (init_b y) s h = keeps-init_b s.role s.phase y s refl h
keeps-control (init_c y) s h = keeps-either s (y == 0) _ _ (keeps-self s h) (keeps-init_c s.role s.phase y s refl h)
keeps-control (rj y) s h = keeps-rj s.phase y s h
keeps-control (srj y) s h = keeps-srj s.phase y s h
keeps-control (rr y) s h = keeps-rr s.phase y s h

keeps-packet : (p : PacketValue) (s : State) → IsSteady s → Keeps s (on_packet p s).state
keeps-packet (control c) s h = keeps-control c s h
keeps-packet (carry seq ack k message) s h = keeps-data s.phase seq ack s h

keeps-timeout : (s : State) → IsSteady s → Keeps s (on_timeout s).state
keeps-timeout s h =
    keeps-either s (nat_lt (s.timeouts + 1) TIMEOUTS_MAX) _ _ (keeps-same s _ h refl refl) (keeps-same s _ h refl refl)

-- ---- the steps

pub keeps-packet_found : (p : PacketValue) (s : State) → IsSteady s → Keeps s (step s (packet_found p)).state
keeps-packet_found p s h = keeps-either s (is_halted s.phase) _ _ (keeps-self s h) (keeps-packet p s h)

pub keeps-bad_found : (s : State) → IsSteady s → Keeps s (step s bad_found).state
keeps-bad_found s h = keeps-either s (is_halted s.phase) _ _ (keeps-self s h) (keeps-bad s.phase s h)

pub keeps-timed_out : (s : State) → IsSteady s → Keeps s (step s timed_out).state
keeps-timed_out s h = keeps-either s (is_halted s.phase) _ _ (keeps-self s h) (keeps-timeout s h)
