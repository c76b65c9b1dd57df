-- Each step keeps what every link keeps to.
use Rattle.std.proofs.Common.{◌≡◌, ℕ, ◌+◌, ◌≤◌, ◌==◌, nat_lt, if◌then◌else◌, Bool, true, false, List, [], ◌∷◌, ◌++◌, length, length-append, length-drop, refl, sym, subst, arith}
use Rattle.std.proofs.lemmas.Bool.Decides.{nat_tests}
use Rattle.std.proofs.lemmas.List.{drop_all}
use Rattle.std.proofs.lemmas.List.Elements.{All-nil, All-same, All-drop, All-append, All-cons}
use Rattle.uug_link.specs.declared.limits.TheConstants.{TIMEOUTS_MAX}
use Rattle.uug_link.specs.declared.phase.Phase.{Phase}
use Rattle.uug_link.specs.declared.phase.Phase.TheVariants.{Fresh, AwaitsInitA, AwaitsInitB, AwaitsInitC, Up, Closing, Halted}
use Rattle.uug_link.specs.declared.phase.Role.{Role}
use Rattle.uug_link.specs.declared.phase.Role.TheVariants.{Caller, Called}
use Rattle.uug_link.specs.State.{State, IsSound, IsStarting, KnowsWindow, HasRoom, Fits, is_halted}
use Rattle.uug_link.specs.Step.{Effect, step, packet_found, bad_found, timed_out, on_init_a, on_init_b, on_init_c, on_close, on_rr, on_rj, on_srj, on_data, on_number, is_expected, is_enough, on_bad, acknowledged, struck, distance, on_timeout, on_control, on_packet}
use Rattle.uug_link.proofs.OtherLemmas.{other_holds}
use Rattle.uug_packet.specs.Packet.{ControlValue, close, rj, srj, rr, init_c, init_b, init_a, PacketValue, control, carry}

-- nothing is outstanding
sound-empty : (s : State) → s.unacked ≡ [] → (KnowsWindow s.phase → 1 ≤ s.window) → IsSound s
sound-empty s none some = record {
  within = rw (none) (omega arith);
  fit = All-same (Fits s.size_code) s.unacked [] none (All-nil (Fits s.size_code));
  none_before = λ _. none;
  some = some;
}

sound-init_a : (role : Role) (phase : Phase) (y : ℕ) (s : State) → s.phase ≡ phase → 1 ≤ y → IsSound s →
    IsSound (on_init_a role phase y s).state
sound-init_a Caller AwaitsInitA y s is k h =
    sound-empty _ (h.none_before (subst IsStarting (sym is) tt)) (λ _. k)
sound-init_a Called AwaitsInitA y s is k h =
    sound-empty _ (h.none_before (subst IsStarting (sym is) tt)) (λ _. k)
sound-init_a Caller Fresh y s is k h = h
sound-init_a Caller AwaitsInitB y s is k h = h
sound-init_a Caller AwaitsInitC y s is k h = h
sound-init_a Caller Up y s is k h = h
sound-init_a Caller Closing y s is k h = h
sound-init_a Caller Halted y s is k h = h
sound-init_a Called Fresh y s is k h = h
sound-init_a Called AwaitsInitB y s is k h = h
sound-init_a Called AwaitsInitC y s is k h = h
sound-init_a Called Up y s is k h = h
sound-init_a Called Closing y s is k h = h
sound-init_a Called Halted y s is k h = h

sound-init_b : (role : Role) (phase : Phase) (y : ℕ) (s : State) → s.phase ≡ phase → IsSound s →
    IsSound (on_init_b role phase y s).state
sound-init_b Caller AwaitsInitB y s is h =
    sound-empty _ (h.none_before (subst IsStarting (sym is) tt)) (λ _. h.some (subst KnowsWindow (sym is) tt))
sound-init_b Called AwaitsInitB y s is h =
    sound-empty _ (h.none_before (subst IsStarting (sym is) tt)) (λ _. h.some (subst KnowsWindow (sym is) tt))
sound-init_b Caller Fresh y s is h = h
sound-init_b Caller AwaitsInitA y s is h = h
sound-init_b Caller AwaitsInitC y s is h = h
sound-init_b Caller Up y s is h = h
sound-init_b Caller Closing y s is h = h
sound-init_b Caller Halted y s is h = h
sound-init_b Called Fresh y s is h = h
sound-init_b Called AwaitsInitA y s is h = h
sound-init_b Called AwaitsInitC y s is h = h
sound-init_b Called Up y s is h = h
sound-init_b Called Closing y s is h = h
sound-init_b Called Halted y s is h = h

sound-init_c : (role : Role) (phase : Phase) (y : ℕ) (s : State) → s.phase ≡ phase → 1 ≤ y → IsSound s →
    IsSound (on_init_c role phase y s).state
sound-init_c Caller AwaitsInitC y s is k h =
    sound-empty _ (h.none_before (subst IsStarting (sym is) tt))
    (λ _. omega (arith, h.some (subst KnowsWindow (sym is) tt), k))
sound-init_c Called AwaitsInitC y s is k h =
    sound-empty _ (h.none_before (subst IsStarting (sym is) tt))
    (λ _. omega (arith, h.some (subst KnowsWindow (sym is) tt), k))
sound-init_c Caller Fresh y s is k h = h
sound-init_c Caller AwaitsInitA y s is k h = h
sound-init_c Caller AwaitsInitB y s is k h = h
sound-init_c Caller Up y s is k h = h
sound-init_c Caller Closing y s is k h = h
sound-init_c Caller Halted y s is k h = h
sound-init_c Called Fresh y s is k h = h
sound-init_c Called AwaitsInitA y s is k h = h
sound-init_c Called AwaitsInitB y s is k h = h
sound-init_c Called Up y s is k h = h
sound-init_c Called Closing y s is k h = h
sound-init_c Called Halted y s is k h = h

-- the same messages under the same terms, and a link that has come up or is as it was
sound-later : (s : State) (t : State) → IsSound s → t.unacked ≡ s.unacked → t.window ≡ s.window →
    t.size_code ≡ s.size_code → (IsStarting t.phase → IsStarting s.phase) →
    (KnowsWindow t.phase → KnowsWindow s.phase) → IsSound t
sound-later s t h same window size phase knows = record {
  within = rw (same, window) h.within;
  fit = rw (same, size) h.fit;
  none_before = λ starts. rw (same) (h.none_before (phase starts));
  some = λ known. rw (window) (h.some (knows known));
}

sound-close : (phase : Phase) (s : State) → IsSound s → IsSound (on_close phase s).state
sound-close Closing s h = sound-later s _ h refl refl refl (λ none. absurd none) (λ none. absurd none)
sound-close Fresh s h = sound-later s _ h refl refl refl (λ none. absurd none) (λ none. absurd none)
sound-close AwaitsInitA s h = sound-later s _ h refl refl refl (λ none. absurd none) (λ none. absurd none)
sound-close AwaitsInitB s h = sound-later s _ h refl refl refl (λ none. absurd none) (λ none. absurd none)
sound-close AwaitsInitC s h = sound-later s _ h refl refl refl (λ none. absurd none) (λ none. absurd none)
sound-close Up s h = sound-later s _ h refl refl refl (λ none. absurd none) (λ none. absurd none)
sound-close Halted s h = sound-later s _ h refl refl refl (λ none. absurd none) (λ none. absurd none)

sound-struck : (count : ℕ) (s : State) → IsSound s → IsSound (struck count s)
sound-struck count s h = record {
  within = omega (arith, length-drop count s.unacked, h.within);
  fit = All-drop (Fits s.size_code) count s.unacked h.fit;
  none_before = λ starts. rw (h.none_before starts) (drop_all count [] (omega arith));
  some = h.some;
}

sound-if : (P : State → Type 0) (b : Bool) (s t : State) → P s → P t → P (if b then s else t)
sound-if P true s t h k = h
sound-if P false s t h k = k

sound-acknowledged : (y : ℕ) (s : State) → IsSound s → IsSound (acknowledged y s)
sound-acknowledged y s h =
    let count = distance s.oldest (y + 1) in
    sound-if IsSound (count == 0) s _ h
    (sound-if IsSound (nat_lt (length s.unacked) count) s (struck count s) h (sound-struck count s h))

sound-rr : (phase : Phase) (y : ℕ) (s : State) → IsSound s → IsSound (on_rr phase y s).state
sound-rr Up y s h = sound-acknowledged y s h
sound-rr Fresh y s h = h
sound-rr AwaitsInitA y s h = h
sound-rr AwaitsInitB y s h = h
sound-rr AwaitsInitC y s h = h
sound-rr Closing y s h = h
sound-rr Halted y s h = h

sound-rj : (phase : Phase) (y : ℕ) (s : State) → IsSound s → IsSound (on_rj phase y s).state
sound-rj Up y s h = sound-acknowledged y s h
sound-rj Fresh y s h = h
sound-rj AwaitsInitA y s h = h
sound-rj AwaitsInitB y s h = h
sound-rj AwaitsInitC y s h = h
sound-rj Closing y s h = h
sound-rj Halted y s h = h

sound-srj : (phase : Phase) (y : ℕ) (s : State) → IsSound s → IsSound (on_srj phase y s).state
sound-srj Up y s h = h
sound-srj Fresh y s h = h
sound-srj AwaitsInitA y s h = h
sound-srj AwaitsInitB y s h = h
sound-srj AwaitsInitC y s h = h
sound-srj Closing y s h = h
sound-srj Halted y s h = h

-- a window of 0 is ignored
sound-unless_zero : (y : ℕ) (b : Bool) → (y == 0) ≡ b → (e f : Effect) → IsSound e.state → (1 ≤ y → IsSound f.state) →
    IsSound (if b then e else f).state
sound-unless_zero y true is e f h k = h
sound-unless_zero y false is e f h k = k (grind (arith, nat_tests, is))

-- the effect of a branch, where both keep it
sound-either : (b : Bool) (e f : Effect) → IsSound e.state → IsSound f.state →
    IsSound (if b then e else f).state
sound-either true e f h k = h
sound-either false e f h k = k

sound-number : (x : ℕ) (s : State) → IsSound s → IsSound (on_number x s).state
sound-number x s h =
    sound-either (is_expected x s) _ _ (sound-later s _ h refl refl refl (λ starts. starts) (λ known. known))
    (other_holds (λ e. IsSound e.state) x s
    (λ left passed. sound-later s _ h refl refl refl (λ starts. starts) (λ known. known))
    (λ left passed. sound-later s _ h refl refl refl (λ starts. starts) (λ known. known))
    (λ left passed is. sound-later s _ h refl refl refl (λ starts. starts) (λ known. known)))

sound-data : (phase : Phase) (x y : ℕ) (s : State) → IsSound s → IsSound (on_data phase x y s).state
sound-data Up x y s h = sound-number x _ (sound-acknowledged y s h)
sound-data Fresh x y s h = h
sound-data AwaitsInitA x y s h = h
sound-data AwaitsInitB x y s h = h
sound-data AwaitsInitC x y s h = h
sound-data Closing x y s h = h
sound-data Halted x y s h = h

sound-bad : (phase : Phase) (s : State) → IsSound s → IsSound (on_bad phase s).state
sound-bad Up s h = sound-either (is_enough s) _ _ h (sound-later s _ h refl refl refl (λ starts. starts) (λ known. known))
sound-bad Fresh s h = h
sound-bad AwaitsInitA s h = h
sound-bad AwaitsInitB s h = h
sound-bad AwaitsInitC s h = h
sound-bad Closing s h = h
sound-bad Halted s h = h

sound-control : (c : ControlValue) (s : State) → IsSound s → IsSound (on_control c s).state
sound-control close s h = sound-close s.phase s h
sound-control (init_a y) s h = sound-unless_zero y (y == 0) refl _ _ h (λ k. sound-init_a s.role s.phase y s refl k h)
sound-control (init_b y) s h = sound-init_b s.role s.phase y s refl h
sound-control (init_c y) s h = sound-unless_zero y (y == 0) refl _ _ h (λ k. sound-init_c s.role s.phase y s refl k h)
sound-control (rj y) s h = sound-rj s.phase y s h
sound-control (srj y) s h = sound-srj s.phase y s h
sound-control (rr y) s h = sound-rr s.phase y s h

sound-packet : (p : PacketValue) (s : State) → IsSound s → IsSound (on_packet p s).state
sound-packet (control c) s h = sound-control c s h
sound-packet (carry seq ack k message) s h = sound-data s.phase seq ack s h

sound-timeout : (s : State) → IsSound s → IsSound (on_timeout s).state
sound-timeout s h =
    sound-either (nat_lt (s.timeouts + 1) TIMEOUTS_MAX) _ _
    (sound-later s _ h refl refl refl (λ starts. starts) (λ known. known))
    (sound-later s _ h refl refl refl (λ none. absurd none) (λ none. absurd none))

-- ---- the steps

pub sound-packet_found : (p : PacketValue) (s : State) → IsSound s → IsSound (step s (packet_found p)).state
sound-packet_found p s h = sound-either (is_halted s.phase) _ _ h (sound-packet p s h)

pub sound-bad_found : (s : State) → IsSound s → IsSound (step s bad_found).state
sound-bad_found s h = sound-either (is_halted s.phase) _ _ h (sound-bad s.phase s h)

pub sound-timed_out : (s : State) → IsSound s → IsSound (step s timed_out).state
sound-timed_out s h = sound-either (is_halted s.phase) _ _ h (sound-timeout s h)

pub sound-sent : (message : List ℕ) (s : State) → HasRoom s → Fits s.size_code message → IsSound s →
    IsSound (record s { unacked = s.unacked ++ message ∷ [] })
sound-sent message s room fits h = record {
  within = omega (arith, length-append s.unacked (message ∷ []), room.1);
  fit = All-append (Fits s.size_code) s.unacked (message ∷ []) h.fit (All-cons (Fits s.size_code) message [] fits (All-nil (Fits s.size_code)));
  none_before = λ starts. absurd (subst IsStarting room.0 starts);
  some = h.some;
}
