-- What the law of any peer says of a link that runs as the window machine does: how far an acknowledgement moves it, and
-- with which window it comes up.
use Rattle.std.proofs.Common.{◌≡◌, ◌⊎◌, ℕ, suc, ◌+◌, ◌-◌, ◌%◌, ◌≤◌, ◌==◌, Bool, true, false, if◌then◌else◌, List, length, length-drop, drop, Some, inl, inr, refl, ap, sym, subst, ◌∙◌, arith}
use Rattle.std.proofs.lemmas.Bool.Decides.{nat_tests}
use Rattle.uug_link.specs.Announced.{Announced}
use Rattle.uug_link.specs.State.{State, IsUp, KnowsWindow, KnowsSize, is_halted}
use Rattle.uug_link.specs.Step.{Effect, up, packet_found, step, acknowledged, on_init_c}
use Rattle.uug_link.specs.Strays.{HasNumbers, acknowledgement}
use Rattle.uug_link.specs.declared.phase.Phase.{Phase}
use Rattle.uug_link.specs.declared.phase.Role.{Role}
use Rattle.uug_link.proofs.OnTheLineLemmas.{drop_drop}
use Rattle.uug_link.proofs.SimulationLemmas.{IsSaid, Knows}
use Rattle.uug_link.proofs.StrayLemmas.{Reach, to_none, beyond, within, reach, holds_up, strikes, strays, numbers, next as next_stays, window as window_comes}
use Rattle.uug_packet.specs.Packet.{PacketValue, control, init_c}

-- ---- an acknowledgement

-- the packet acknowledges the first `a` messages, of which the first `k` count as acknowledged already
pub record Acks (s : State) (p : PacketValue) (sent : List (List ℕ)) (k a y : ℕ) : Type 0 where
  pub is_up : IsUp s
  pub says : acknowledgement p ≡ Some y
  pub digit : y ≡ a % 8
  pub unacked : s.unacked ≡ drop k sent
  pub oldest : s.oldest ≡ (k + 1) % 8
  pub low : k ≤ a
  pub high : a ≤ length sent
  pub few : length sent ≤ k + 7

outstanding_count : {s : State} {p : PacketValue} {sent : List (List ℕ)} {k a y : ℕ} → Acks s p sent k a y →
    length s.unacked + k ≡ length sent
outstanding_count {sent = sent} {k = k} h = omega (arith, h.low, h.high, ap length h.unacked, length-drop k sent)

in_bounds : {s : State} {p : PacketValue} {sent : List (List ℕ)} {k a y : ℕ} → Acks s p sent k a y → HasNumbers s
in_bounds h = record { oldest = omega (arith, h.oldest); few = omega (arith, h.few, outstanding_count h) }

-- those behind the first `a` are left
left : (s : State) (p : PacketValue) (sent : List (List ℕ)) (k a y : ℕ) → Acks s p sent k a y →
    (step s (packet_found p)).state.unacked ≡ drop a sent
left s p sent k a y h = by (a == k) refl
  where
    by : (t : Bool) → (a == k) ≡ t → (step s (packet_found p)).state.unacked ≡ drop a sent
    by true e =
        let same : k ≡ a = grind (arith, nat_tests, e) in
        strays s p y h.is_up (in_bounds h) (omega (arith, h.digit)) h.says
        (λ behind stands. omega (
          arith,
          stands.outstanding,
          stands.number,
          same,
          h.digit,
          h.oldest,
          h.few,
          outstanding_count h,
        ))
        ∙ h.unacked ∙ ap (λ (n : ℕ). drop n sent) same
    by false e =
        let behind : ℕ = a - suc k in
        let more : k + suc behind ≡ a = grind (arith, nat_tests, e, h.low) in
        strikes s p y behind h.is_up (in_bounds h) h.says
        (record {
          outstanding = omega (arith, more, h.high, outstanding_count h);
          number = omega (arith, more, h.digit, h.oldest);
        })
        ∙ ap (λ (l : List (List ℕ)). drop (suc behind) l) h.unacked ∙ drop_drop k (suc behind) sent
        ∙ ap (λ (n : ℕ). drop n sent) more

-- and the oldest is the one after them, since the next message gets the same number as before
oldest_left : (s : State) (p : PacketValue) (sent : List (List ℕ)) (k a y : ℕ) → Acks s p sent k a y →
    (step s (packet_found p)).state.oldest ≡ (a + 1) % 8
oldest_left s p sent k a y h =
    let kept : length (step s (packet_found p)).state.unacked + a ≡ length sent =
    omega (arith, h.high, ap length (left s p sent k a y h), length-drop a sent) in
    omega (arith, (numbers s p (in_bounds h)).oldest, next_stays s p, kept, h.oldest, outstanding_count h)

-- what else a link keeps stays
pub record Beside (s t : State) : Type 0 where
  pub expected : t.expected ≡ s.expected
  pub phase : t.phase ≡ s.phase
  pub window : t.window ≡ s.window
  pub size_code : t.size_code ≡ s.size_code
  pub own : t.own ≡ s.own

pub beside : (y : ℕ) (s : State) → Beside s (acknowledged y s)
beside y s = by (reach s y)
  where
    by : Reach s y → Beside s (acknowledged y s)
    by (to_none e) = rw (e) (record { expected = refl; phase = refl; window = refl; size_code = refl; own = refl })
    by (beyond some less) =
        rw (some, less) (record { expected = refl; phase = refl; window = refl; size_code = refl; own = refl })
    by (within some enough) =
        rw (some, enough) (record { expected = refl; phase = refl; window = refl; size_code = refl; own = refl })

-- the acknowledgement of a message strikes all up to it
pub record Acked (s t : State) (sent : List (List ℕ)) (a : ℕ) : Type 0 where
  pub unacked : t.unacked ≡ drop a sent
  pub oldest : t.oldest ≡ (a + 1) % 8
  pub expected : t.expected ≡ s.expected
  pub phase : t.phase ≡ s.phase
  pub window : t.window ≡ s.window
  pub size_code : t.size_code ≡ s.size_code
  pub own : t.own ≡ s.own

-- the same messages and the same oldest number
abbrev Same : State → List (List ℕ) → ℕ → Type 0
Same s unacked oldest = (s.unacked ≡ unacked) × (s.oldest ≡ oldest)

pub acked : (s : State) (p : PacketValue) (sent : List (List ℕ)) (k a y : ℕ) → Acks s p sent k a y →
    Acked s (acknowledged y s) sent a
acked s p sent k a y h =
    let same = holds_up (Same (acknowledged y s)) s p y h.is_up h.says (refl, refl) in
    let others = beside y s in
    record {
      unacked = same.0 ∙ left s p sent k a y h;
      oldest = same.1 ∙ oldest_left s p sent k a y h;
      expected = others.expected;
      phase = others.phase;
      window = others.window;
      size_code = others.size_code;
      own = others.own;
    }

pub knows_acked : {s t : State} {sent : List (List ℕ)} {a : ℕ} (b : Announced) → Acked s t sent a → Knows b s → Knows b t
knows_acked b h knows = record {
  window = λ k. h.window ∙ knows.window (subst KnowsWindow h.phase k);
  size = λ k. h.size_code ∙ knows.size (subst KnowsSize h.phase k);
}

-- ---- a link comes up

-- with the window that the other end announced, both times
with_announced : (b : Announced) (s : State) (p : PacketValue) → IsSaid b p → s.window ≡ b.window →
    (step s (packet_found p)).outcome ≡ up → (step s (packet_found p)).state.window ≡ b.window
with_announced b s p said knows comes =
    let told = window_comes s p comes in
    either (subst (IsSaid b) told.1 said) told.2.2
  where
    either : {y : ℕ} → y ≡ b.window → (((step s (packet_found p)).state.window ≡ y) ⊎ ((step s (packet_found p)).state.window ≡ s.window)) →
        (step s (packet_found p)).state.window ≡ b.window
    either y_is (inl is) = is ∙ y_is
    either y_is (inr is) = is ∙ knows

if_no : (t : Bool) (e f : Effect) → t ≡ false → (if t then e else f) ≡ f
if_no true e f is = absurd cc
if_no false e f is = refl

-- the step that brings it up is that of INITC
pub comes_up : (b : Announced) (s : State) (y : ℕ) (role : Role) (phase : Phase) → s.role ≡ role →
    s.phase ≡ phase → is_halted phase ≡ false → (y == 0) ≡ false → y ≡ b.window → s.window ≡ b.window →
    (on_init_c role phase y s).outcome ≡ up → (on_init_c role phase y s).state.window ≡ b.window
comes_up b s y role phase role_is phase_is runs some said knows comes =
    let steps : step s (packet_found (control (init_c y))) ≡ on_init_c role phase y s =
    if_no (is_halted s.phase) _ _ (ap is_halted phase_is ∙ runs) ∙ if_no (y == 0) _ _ some
    ∙ ap (λ (r : Role). on_init_c r s.phase y s) role_is ∙ ap (λ (x : Phase). on_init_c role x y s) phase_is in
    ap (λ (e : Effect). e.state.window) (sym steps)
    ∙ with_announced b s (control (init_c y)) said knows (ap (λ (e : Effect). e.outcome) steps ∙ comes)
