-- The numbers of two links are counts, and an acknowledgement that arrives is none of a packet that is not outstanding.
use Rattle.std.proofs.Common.{◌≡◌, ℕ, zero, suc, ◌+◌, ◌-◌, ◌%◌, ◌≤◌, true, List, [], ◌∷◌, length, length-drop, length-take, drop, slice_get, Some, refl, ap, sym, subst, ◌∙◌, arith}
use Rattle.std.proofs.lemmas.Option.{same_Some, slice_get_within}
use Rattle.uug_link.specs.Announced.{Announced}
use Rattle.uug_link.specs.Arrivals.{repeated_misses}
use Rattle.uug_link.specs.Counts.{AreCounted}
use Rattle.uug_link.specs.OnTheLine.{is_of_window, of_window, IsWritten, AreWritten}
use Rattle.uug_link.specs.State.{IsUp}
use Rattle.uug_link.specs.Step.{acknowledged, packet_found, step}
use Rattle.uug_link.specs.Strays.{acknowledgement as acknowledged_by}
use Rattle.uug_link.specs.Terms.{IsWindow}
use Rattle.uug_link.specs.TwoLinks.{AllMayHappen, AlwaysOfTwo, End, Ends, IsRun, after_happenings, gone_past}
use Rattle.uug_link.specs.WindowMachine.{Flying, data_at, acknowledgement, ack_of}
use Rattle.uug_link.proofs.SimulationLemmas.{Wire, machine}
use Rattle.uug_link.proofs.SimulatedSteps.{Running, front, acked_front, in_front}
use Rattle.uug_link.proofs.StrayLemmas.{holds_up}
use Rattle.uug_link.proofs.WindowMachineRuns.{always_counts}
use Rattle.uug_link.proofs.TwoLinksRuns.{IsRun-several, of_two, simulated}
use Rattle.uug_packet.specs.Packet.{PacketValue, control, carry, close, rj, srj, rr, init_c, init_b, init_a}

-- ---- numbers

pub counted : AlwaysOfTwo (λ e other announced. AreCounted e other announced.window)
counted = of_two (λ e other announced. AreCounted e other announced.window)
    (λ a b e f out back h.
    let counts = always_counts b.window a.window (machine a b e f out back) h.other h.window h.reached in
    let all : length f.taken ≡ out.taken =
    omega (arith, counts.0.1, ap length h.sim.out_half.taken, length-take out.taken e.sent) in
    let left : length e.link.unacked ≡ length e.sent - out.acked =
    ap length h.sim.out_half.unacked ∙ length-drop out.acked e.sent in
    record {
      acked = out.acked;
      were_taken = omega (arith, all, counts.0.0);
      were_sent = omega (arith, all, counts.0.1);
      few = counts.0.2;
      oldest = h.sim.out_half.oldest;
      next = omega (arith, left, h.sim.out_half.oldest, counts.0.0, counts.0.1);
      expected = omega (arith, all, h.sim.out_half.expected);
    })

-- ---- acknowledgements

-- what a packet acknowledges is what its sender had taken
digit : (sent : List (List ℕ)) (x : Flying) (p : PacketValue) (y : ℕ) → IsWritten sent x p →
    acknowledged_by p ≡ Some y → y ≡ ack_of x % 8
digit sent (data_at n c) (carry seq ack k message) y written says = sym (same_Some ack y says) ∙ written.1
digit sent (data_at n c) (control q) y written says = absurd written
digit sent (acknowledgement c) (carry seq ack k message) y written says = absurd written
digit sent (acknowledgement c) (control (rr z)) y written says = sym (same_Some z y says) ∙ written
digit sent (acknowledgement c) (control (rj z)) y written says = sym (same_Some z y says) ∙ written
digit sent (acknowledgement c) (control (srj z)) y written says = absurd written
digit sent (acknowledgement c) (control close) y written says = absurd written
digit sent (acknowledgement c) (control (init_a z)) y written says = absurd written
digit sent (acknowledgement c) (control (init_b z)) y written says = absurd written
digit sent (acknowledgement c) (control (init_c z)) y written says = absurd written

-- a packet that acknowledges is one of the window
of_window_if : (p : PacketValue) (y : ℕ) → acknowledged_by p ≡ Some y → is_of_window p ≡ true
of_window_if (control (rr z)) y says = refl
of_window_if (control (rj z)) y says = refl
of_window_if (control (srj z)) y says = refl
of_window_if (control close) y says = absurd cc
of_window_if (control (init_a z)) y says = absurd cc
of_window_if (control (init_b z)) y says = absurd cc
of_window_if (control (init_c z)) y says = absurd cc
of_window_if (carry seq ack k message) y says = refl

counts_in_front : (a b : Announced) (e f : End) (out : Wire) (acked' taken : ℕ) (xs : List Flying)
    (p : PacketValue) (y : ℕ) → IsUp e.link → Running a b e f out (record { acked = acked'; taken = taken; flight = xs }) →
    AreWritten f.sent xs (p ∷ of_window (drop (suc e.passed) f.emitted)) → acknowledged_by p ≡ Some y →
    (acknowledged y e.link).oldest ≡ (y + 1) % 8
counts_in_front a b e f out acked' taken [] p y is h written says = absurd written
counts_in_front a b e f out acked' taken (x ∷ xs) p y is h written says =
    let first = front a b e f out acked' taken x xs h in
    let here = digit f.sent x p y written.0 says in
    let then = acked_front a b e f out acked' taken x xs p y h first is says here in
    omega (arith, then.oldest, here)

counts_next : (a b : Announced) (e f : End) (out back : Wire) (p : PacketValue) (y : ℕ) →
    Running a b e f out back → slice_get f.emitted e.passed ≡ Some p → IsUp e.link → acknowledged_by p ≡ Some y →
    (step e.link (packet_found p)).state.oldest ≡ (y + 1) % 8
counts_next a b e f out back p y h at is says =
    holds_up (λ unacked oldest. oldest ≡ (y + 1) % 8) e.link p y is says
    (counts_in_front a b e f out back.acked back.taken back.flight p y is h
    (in_front a b e f out back p h at (of_window_if p y says)) says)

-- ---- behind packets that are lost

misses_to : (k : ℕ) (e other : End) (i : ℕ) → e.passed + k ≡ i → i ≤ length other.emitted →
    AllMayHappen e other (repeated_misses k) × (after_happenings e (repeated_misses k) ≡ record e { passed = i })
misses_to zero e other i is low =
    let here : e.passed ≡ i = omega (arith, is) in
    (tt, ap (λ (n : ℕ). record e { passed = n }) here)
misses_to (suc k) e other i is low =
    let later = misses_to k (gone_past e) other i (omega (arith, is)) low in
    ((omega (arith, is, low), later.0), later.1)

pub acks_count : (near far : Announced) (ends : Ends) (p : PacketValue) (i y : ℕ) →
    IsWindow near.window → IsWindow far.window → IsRun near far ends → IsUp ends.near.link →
    ends.near.passed ≤ i → slice_get ends.far.emitted i ≡ Some p → acknowledged_by p ≡ Some y →
    (step ends.near.link (packet_found p)).state.oldest ≡ (y + 1) % 8
acks_count near far ends p i y w v run is behind at says =
    let k : ℕ = i - ends.near.passed in
    let within = slice_get_within ends.far.emitted i p at in
    let misses = misses_to k ends.near ends.far i (omega (arith, behind)) (omega (arith, within)) in
    let there : End = record ends.near { passed = i } in
    let later = subst (λ (e : End). IsRun near far (record ends { near = e })) misses.1
    (IsRun-several near far ends (repeated_misses k) run misses.0) in
    let h = simulated near far (record ends { near = there }) w v later in
    counts_next near far there ends.far h.out h.back p y h.running at is says
