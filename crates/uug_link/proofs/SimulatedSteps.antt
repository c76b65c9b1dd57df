-- Each event of a link: the window machine moves with it.
use Rattle.std.proofs.Common.{◌≡◌, ℕ, suc, ◌+◌, ◌-◌, ◌%◌, ◌≤◌, ◌==◌, nat_lt, Bool, true, false, if◌then◌else◌, List, [], ◌∷◌, ◌++◌, length, length-append, length-drop, drop, take, slice_get, Some, None, refl, ap, sym, subst, ◌∙◌, arith, true≢false}
use Rattle.std.proofs.lemmas.Bool.Decides.{nat_tests}
use Rattle.std.proofs.lemmas.List.{drop-append-le, take-append-le}
use Rattle.uug_link.specs.Announced.{Announced}
use Rattle.uug_link.specs.Terms.{IsWindow}
use Rattle.uug_link.specs.Moves.{found_at, becomes, comes}
use Rattle.uug_link.specs.OnTheLine.{is_of_window, of_window, IsWritten, AreWritten}
use Rattle.uug_link.specs.State.{State, IsUp, KnowsWindow, KnowsSize, HasRoom, is_halted}
use Rattle.uug_link.specs.Step.{Effect, Event, to_begin, packet_found, bad_found, timed_out, to_send, to_close, taken as taken_up, answers, ignored, quiet, moved, halt, on_init_a, on_init_b, on_init_c, on_close, on_rr, on_rj, on_srj, on_data, on_number, is_expected, is_enough, reject_left_after, until_over, on_bad, acknowledged, repeated, on_packet, on_event, answers_halted, last_received, outstanding, next_number, data_packet}
use Rattle.uug_link.specs.Strays.{acknowledgement as acknowledged_by}
use Rattle.uug_link.specs.TwoLinks.{End, gone_past, hears, packets_of, with_effect, moved_by, MayCall}
use Rattle.uug_link.specs.WindowMachine.{Machine, Flying, data_at, acknowledgement, ack_of, EachNumber, IsReached, Act, arrives, loses, sends, on_back, after_move, taken_with}
use Rattle.uug_link.specs.declared.limits.TheConstants.{TIMEOUTS_MAX}
use Rattle.uug_link.specs.declared.phase.Phase.{Phase}
use Rattle.uug_link.specs.declared.phase.Phase.TheVariants.{AwaitsInitA, AwaitsInitB, AwaitsInitC, Up, Closing, Halted}
use Rattle.uug_link.specs.declared.phase.Role.{Role}
use Rattle.uug_link.specs.declared.phase.Role.TheVariants.{Caller, Called}
use Rattle.uug_link.proofs.OnTheLineLemmas.{slice_get-last, take_at, of_window-front, of_window-emitted, AreWritten-append, AreWritten-more}
use Rattle.uug_link.proofs.OtherLemmas.{keeping, other_holds}
use Rattle.uug_link.proofs.PeerLemmas.{Acked, acked, knows_acked, comes_up}
use Rattle.uug_link.proofs.SimulationLemmas.{AllSaid-at, AllSaid-append, Knows, Wire, machine, Sim, Next, Keeps, MayEmit, emits_nothing, emits_rr, emits_rj, emits_close, emits_init_a, emits_init_b, emits_init_c, emits_outstanding, last_received_is, emit, hear_beside, arrive}
use Rattle.uug_link.proofs.WindowMachineRuns.{IsReached-after_move, always_ack_digits, always_counts, always_number_digits}
use Rattle.uug_packet.specs.Packet.{PacketValue, control, carry, close, rj, srj, rr, init_c, init_b, init_a}

-- ---- what the law of the machine says of the packet that arrives

-- two ends and the machine, after some run of it
pub record Running (a b : Announced) (e f : End) (out back : Wire) : Type 0 where
  pub window : IsWindow a.window
  pub other : IsWindow b.window
  pub reached : IsReached b.window a.window (machine a b e f out back)
  pub sim : Sim a b e f out back

pub record Front (e : End) (out : Wire) (taken : ℕ) (x : Flying) (xs : List Flying) : Type 0 where
  pub ack : ack_of x ≡ out.acked + (ack_of x % 8 + 8 - out.acked % 8) % 8
  pub ack_sent : ack_of x ≤ length e.sent
  pub few : length e.sent ≤ out.acked + 7
  pub number : EachNumber (λ n. n % 8 ≡ taken % 8 → n ≡ taken) (x ∷ xs)

pub front : (a b : Announced) (e f : End) (out : Wire) (acked taken : ℕ) (x : Flying) (xs : List Flying) →
    Running a b e f out (record { acked = acked; taken = taken; flight = x ∷ xs }) → Front e out taken x xs
front a b e f out acked taken x xs h =
    let m : Machine = machine a b e f out (record { acked = acked; taken = taken; flight = x ∷ xs }) in
    let later = IsReached-after_move b.window a.window m (on_back arrives) h.reached (omega arith) in
    let counts = always_counts b.window a.window (after_move m (on_back arrives)) h.other h.window later in
    let now = always_counts b.window a.window m h.other h.window h.reached in
    record {
      ack = (always_ack_digits b.window a.window m h.other h.window h.reached).1.0;
      ack_sent = omega (arith, counts.0.0, counts.0.1);
      few = omega (arith, now.0.2, h.other.1);
      number = (always_number_digits b.window a.window m h.other h.window h.reached).1;
    }

acked_sent : (a b : Announced) (e f : End) (out back : Wire) → Running a b e f out back →
    out.acked ≤ length e.sent
acked_sent a b e f out back h =
    let counts = always_counts b.window a.window (machine a b e f out back) h.other h.window h.reached in
    omega (arith, counts.0.0, counts.0.1)

-- ---- packets that leave the numbers

abbrev Heard : (a b : Announced) (e f : End) (out back : Wire) (came : List Act) → PacketValue → Effect → Type 0
Heard a b e f out back came p effect = Next a b e f out back came (gone_past (with_effect e (packet_found p) effect))

-- the end's packet stands where the other end's packets are found
abbrev IsNext : End → End → PacketValue → Type 0
IsNext e f p = slice_get f.emitted e.passed ≡ Some p

same : (s : State) → Keeps s s
same s = record { unacked = refl; oldest = refl; expected = refl }

heard_ignored : (a b : Announced) (e f : End) (out back : Wire) (p : PacketValue) → Sim a b e f out back → IsNext e f p →
    Heard a b e f out back (becomes loses (Some p)) p (ignored e.link)
heard_ignored a b e f out back p h at =
    hear_beside a b e f out back p e.link [] h at (same e.link) h.knows h.own (emits_nothing a e.sent out.acked back.taken)

heard_halted : (a b : Announced) (e f : End) (out back : Wire) (p : PacketValue) → Sim a b e f out back → IsNext e f p →
    Heard a b e f out back (becomes loses (Some p)) p (answers_halted e.link)
heard_halted a b e f out back p h at =
    hear_beside a b e f out back p e.link [] h at (same e.link) h.knows h.own (emits_nothing a e.sent out.acked back.taken)

heard_init_a : (a b : Announced) (e f : End) (out back : Wire) (y : ℕ) (role : Role) (phase : Phase) →
    Sim a b e f out back → IsNext e f (control (init_a y)) →
    Heard a b e f out back [] (control (init_a y)) (on_init_a role phase y e.link)
heard_init_a a b e f out back y Caller AwaitsInitA h at =
    hear_beside a b e f out back (control (init_a y)) _ _ h at
    (record { unacked = refl; oldest = refl; expected = refl })
    (record { window = λ k. AllSaid-at b f.emitted e.passed (control (init_a y)) h.other_said at; size = λ k. absurd k }) h.own
    (emits_init_b a e.sent out.acked back.taken e.link.own.size_code (ap (λ (x : Announced). x.size_code) h.own))
heard_init_a a b e f out back y Called AwaitsInitA h at =
    hear_beside a b e f out back (control (init_a y)) _ _ h at
    (record { unacked = refl; oldest = refl; expected = refl })
    (record { window = λ k. AllSaid-at b f.emitted e.passed (control (init_a y)) h.other_said at; size = λ k. absurd k }) h.own
    (emits_init_a a e.sent out.acked back.taken e.link.own.window (ap (λ (x : Announced). x.window) h.own))
heard_init_a a b e f out back y Called AwaitsInitB h at =
    hear_beside a b e f out back (control (init_a y)) e.link _ h at (same e.link) h.knows h.own
    (emits_init_a a e.sent out.acked back.taken e.link.own.window (ap (λ (x : Announced). x.window) h.own))
heard_init_a a b e f out back y _ _ h at = heard_ignored a b e f out back (control (init_a y)) h at

-- the window stays
window_stays : (b : Announced) (s : State) (phase : Phase) → s.phase ≡ phase → KnowsWindow phase → Knows b s →
    s.window ≡ b.window
window_stays b s phase is k knows = knows.window (subst KnowsWindow (sym is) k)

heard_init_b : (a b : Announced) (e f : End) (out back : Wire) (y : ℕ) (role : Role) (phase : Phase) →
    e.link.phase ≡ phase → Sim a b e f out back → IsNext e f (control (init_b y)) →
    Heard a b e f out back [] (control (init_b y)) (on_init_b role phase y e.link)
heard_init_b a b e f out back y Caller AwaitsInitB is h at =
    hear_beside a b e f out back (control (init_b y)) _ _ h at
    (record { unacked = refl; oldest = refl; expected = refl })
    (record {
      window = λ k. window_stays b e.link AwaitsInitB is tt h.knows;
      size = λ k. AllSaid-at b f.emitted e.passed (control (init_b y)) h.other_said at;
    }) h.own
    (emits_init_c a e.sent out.acked back.taken e.link.own.window (ap (λ (x : Announced). x.window) h.own))
heard_init_b a b e f out back y Called AwaitsInitB is h at =
    hear_beside a b e f out back (control (init_b y)) _ _ h at
    (record { unacked = refl; oldest = refl; expected = refl })
    (record {
      window = λ k. window_stays b e.link AwaitsInitB is tt h.knows;
      size = λ k. AllSaid-at b f.emitted e.passed (control (init_b y)) h.other_said at;
    }) h.own
    (emits_init_b a e.sent out.acked back.taken e.link.own.size_code (ap (λ (x : Announced). x.size_code) h.own))
heard_init_b a b e f out back y Called AwaitsInitC is h at =
    hear_beside a b e f out back (control (init_b y)) e.link _ h at (same e.link) h.knows h.own
    (emits_init_b a e.sent out.acked back.taken e.link.own.size_code (ap (λ (x : Announced). x.size_code) h.own))
heard_init_b a b e f out back y _ _ is h at = heard_ignored a b e f out back (control (init_b y)) h at

heard_init_c : (a b : Announced) (e f : End) (out back : Wire) (y : ℕ) (role : Role) (phase : Phase) →
    e.link.role ≡ role → e.link.phase ≡ phase → (y == 0) ≡ false → Sim a b e f out back → IsNext e f (control (init_c y)) →
    Heard a b e f out back [] (control (init_c y)) (on_init_c role phase y e.link)
heard_init_c a b e f out back y Caller AwaitsInitC role_is is some h at =
    hear_beside a b e f out back (control (init_c y)) _ [] h at
    (record { unacked = refl; oldest = refl; expected = refl })
    (record {
      window = λ k.
          comes_up b e.link y Caller AwaitsInitC role_is is refl some
          (AllSaid-at b f.emitted e.passed (control (init_c y)) h.other_said at)
          (window_stays b e.link AwaitsInitC is tt h.knows) refl;
      size = λ k. h.knows.size (subst KnowsSize (sym is) tt);
    }) h.own (emits_nothing a e.sent out.acked back.taken)
heard_init_c a b e f out back y Called AwaitsInitC role_is is some h at =
    hear_beside a b e f out back (control (init_c y)) _ _ h at
    (record { unacked = refl; oldest = refl; expected = refl })
    (record {
      window = λ k.
          comes_up b e.link y Called AwaitsInitC role_is is refl some
          (AllSaid-at b f.emitted e.passed (control (init_c y)) h.other_said at)
          (window_stays b e.link AwaitsInitC is tt h.knows) refl;
      size = λ k. h.knows.size (subst KnowsSize (sym is) tt);
    }) h.own
    (emits_init_c a e.sent out.acked back.taken e.link.own.window (ap (λ (x : Announced). x.window) h.own))
heard_init_c a b e f out back y Called Up role_is is some h at =
    hear_beside a b e f out back (control (init_c y)) e.link _ h at (same e.link) h.knows h.own
    (emits_init_c a e.sent out.acked back.taken e.link.own.window (ap (λ (x : Announced). x.window) h.own))
heard_init_c a b e f out back y _ _ role_is is some h at = heard_ignored a b e f out back (control (init_c y)) h at

heard_close : (a b : Announced) (e f : End) (out back : Wire) (phase : Phase) → Sim a b e f out back →
    IsNext e f (control close) → Heard a b e f out back [] (control close) (on_close phase e.link)
heard_close a b e f out back Closing h at =
    hear_beside a b e f out back (control close) (halt e.link) [] h at (record { unacked = refl; oldest = refl; expected = refl })
    (record { window = λ k. absurd k; size = λ k. absurd k }) h.own (emits_nothing a e.sent out.acked back.taken)
heard_close a b e f out back _ h at =
    hear_beside a b e f out back (control close) (halt e.link) _ h at (record { unacked = refl; oldest = refl; expected = refl })
    (record { window = λ k. absurd k; size = λ k. absurd k }) h.own (emits_close a e.sent out.acked back.taken)

-- ---- packets of the window, at a link that is up

-- the packet at the front acknowledges, at a link that is up
pub acked_front : (a b : Announced) (e f : End) (out : Wire) (acked' taken : ℕ) (x : Flying) (xs : List Flying)
    (p : PacketValue) (y : ℕ) → Running a b e f out (record { acked = acked'; taken = taken; flight = x ∷ xs }) →
    Front e out taken x xs → IsUp e.link → acknowledged_by p ≡ Some y → y ≡ ack_of x % 8 →
    Acked e.link (acknowledged y e.link) e.sent (ack_of x)
acked_front a b e f out acked' taken x xs p y h first is says digit =
    acked e.link p e.sent out.acked (ack_of x) y
    (record {
      is_up = is;
      says = says;
      digit = digit;
      unacked = h.sim.out_half.unacked;
      oldest = h.sim.out_half.oldest;
      low = omega (arith, first.ack);
      high = first.ack_sent;
      few = first.few;
    })

heard_rr_up : (a b : Announced) (e f : End) (out : Wire) (acked' taken : ℕ) (xs : List Flying) (y : ℕ) →
    IsUp e.link → Running a b e f out (record { acked = acked'; taken = taken; flight = xs }) → IsNext e f (control (rr y)) →
    AreWritten f.sent xs (control (rr y) ∷ of_window (drop (suc e.passed) f.emitted)) →
    Heard a b e f out (record { acked = acked'; taken = taken; flight = xs }) (arrives ∷ []) (control (rr y)) (quiet (acknowledged y e.link))
heard_rr_up a b e f out acked' taken [] y is h at written = absurd written
heard_rr_up a b e f out acked' taken (data_at n c ∷ xs) y is h at written = absurd written.0
heard_rr_up a b e f out acked' taken (acknowledgement c ∷ xs) y is h at written =
    let first = front a b e f out acked' taken (acknowledgement c) xs h in
    let t = acked_front a b e f out acked' taken (acknowledgement c) xs (control (rr y)) y h first is refl written.0 in
    arrive a b e f out acked' taken (acknowledgement c) xs (control (rr y)) (acknowledged y e.link) e.taken [] h.sim at written
    t.unacked t.oldest (t.expected ∙ h.sim.back_half.expected) h.sim.back_half.taken (knows_acked b t h.sim.knows)
    (t.own ∙ h.sim.own) (emits_nothing a e.sent c taken)

heard_rj_up : (a b : Announced) (e f : End) (out : Wire) (acked' taken : ℕ) (xs : List Flying) (y : ℕ) →
    IsUp e.link → Running a b e f out (record { acked = acked'; taken = taken; flight = xs }) → IsNext e f (control (rj y)) →
    AreWritten f.sent xs (control (rj y) ∷ of_window (drop (suc e.passed) f.emitted)) →
    Heard a b e f out (record { acked = acked'; taken = taken; flight = xs }) (arrives ∷ []) (control (rj y)) (on_rj Up y e.link)
heard_rj_up a b e f out acked' taken [] y is h at written = absurd written
heard_rj_up a b e f out acked' taken (data_at n c ∷ xs) y is h at written = absurd written.0
heard_rj_up a b e f out acked' taken (acknowledgement c ∷ xs) y is h at written =
    let first = front a b e f out acked' taken (acknowledgement c) xs h in
    let t = acked_front a b e f out acked' taken (acknowledgement c) xs (control (rj y)) y h first is refl written.0 in
    let expected = t.expected ∙ h.sim.back_half.expected in
    arrive a b e f out acked' taken (acknowledgement c) xs (control (rj y)) (acknowledged y e.link) e.taken
    (packets_of (outstanding (acknowledged y e.link))) h.sim at written
    t.unacked t.oldest expected h.sim.back_half.taken (knows_acked b t h.sim.knows) (t.own ∙ h.sim.own)
    (emits_outstanding a (acknowledged y e.link) e.sent c taken t.unacked t.oldest expected first.ack_sent)

-- no link emits SRJ
heard_srj_up : (a b : Announced) (e f : End) (out back : Wire) (xs : List Flying) (y : ℕ) →
    AreWritten f.sent xs (control (srj y) ∷ of_window (drop (suc e.passed) f.emitted)) →
    Heard a b e f out back (arrives ∷ []) (control (srj y)) (on_srj Up y e.link)
heard_srj_up a b e f out back [] y written = absurd written
heard_srj_up a b e f out back (data_at n c ∷ xs) y written = absurd written.0
heard_srj_up a b e f out back (acknowledgement c ∷ xs) y written = absurd written.0

-- the receiver of the machine takes the message that it expects, and no other
taken_next : (n c taken : ℕ) → n ≡ taken → taken_with (data_at n c) taken ≡ taken + 1
taken_next n c taken is = by (n == taken) refl
  where
    by : (t : Bool) → (n == taken) ≡ t → (if t then taken + 1 else taken) ≡ taken + 1
    by true e = refl
    by false e = absurd (differs (grind (arith, nat_tests, e)))
      where
        differs : (n ≡ taken → ⊥) → ⊥
        differs d = d is

taken_no : (n c taken : ℕ) → (n ≡ taken → ⊥) → taken_with (data_at n c) taken ≡ taken
taken_no n c taken differs = by (n == taken) refl
  where
    by : (t : Bool) → (n == taken) ≡ t → (if t then taken + 1 else taken) ≡ taken
    by true e = absurd (differs (grind (arith, nat_tests, e)))
    by false e = refl

heard_either : (a b : Announced) (e f : End) (out back : Wire) (came : List Act) (p : PacketValue) (t : Bool) (x y : Effect) →
    Heard a b e f out back came p x → Heard a b e f out back came p y → Heard a b e f out back came p (if t then x else y)
heard_either a b e f out back came p true x y h k = h
heard_either a b e f out back came p false x y h k = k

heard_if : (a b : Announced) (e f : End) (out back : Wire) (came : List Act) (p : PacketValue) (t : Bool) (x y : Effect) →
    (t ≡ true → Heard a b e f out back came p x) → (t ≡ false → Heard a b e f out back came p y) →
    Heard a b e f out back came p (if t then x else y)
heard_if a b e f out back came p true x y h k = h refl
heard_if a b e f out back came p false x y h k = k refl

-- the expected packet is taken, by a link that has taken up its acknowledgement
number_taken : (a b : Announced) (e f : End) (out : Wire) (acked' taken n c : ℕ) (xs : List Flying)
    (seq ack k : ℕ) (message : List ℕ) (s : State) →
    Running a b e f out (record { acked = acked'; taken = taken; flight = data_at n c ∷ xs }) →
    IsNext e f (carry seq ack k message) →
    AreWritten f.sent (data_at n c ∷ xs) (carry seq ack k message ∷ of_window (drop (suc e.passed) f.emitted)) →
    Acked e.link s e.sent c → Front e out taken (data_at n c) xs → seq ≡ s.expected →
    Heard a b e f out (record { acked = acked'; taken = taken; flight = data_at n c ∷ xs }) (arrives ∷ []) (carry seq ack k message)
    (answers (record s { expected = (s.expected + 1) % 8; reject_left = reject_left_after s; passed = None; timeouts = 0 }) (rr seq) taken_up)
number_taken a b e f out acked' taken n c xs seq ack k message s h at written t first equal =
    let expected : s.expected ≡ (taken + 1) % 8 = t.expected ∙ h.sim.back_half.expected in
    let here : n ≡ taken = first.number.0 (omega (arith, equal, expected, written.0.0)) in
    let next : taken_with (data_at n c) taken ≡ taken + 1 = taken_next n c taken here in
    let suc_next : taken_with (data_at n c) taken ≡ suc taken = omega (arith, next) in
    arrive a b e f out acked' taken (data_at n c) xs (carry seq ack k message)
    (record s { expected = (s.expected + 1) % 8; reject_left = reject_left_after s; passed = None; timeouts = 0 }) (e.taken ++ message ∷ [])
    (control (rr seq) ∷ []) h.sim at written
    t.unacked t.oldest (omega (arith, next, expected))
    (ap (λ (l : List (List ℕ)). l ++ message ∷ []) h.sim.back_half.taken
    ∙ sym (take_at f.sent taken message (subst (λ (i : ℕ). slice_get f.sent i ≡ Some message) here written.0.2))
    ∙ ap (λ (i : ℕ). take i f.sent) (sym suc_next))
    (record { window = (knows_acked b t h.sim.knows).window; size = (knows_acked b t h.sim.knows).size })
    (t.own ∙ h.sim.own) (emits_rr a e.sent c (taken_with (data_at n c) taken) seq (omega (arith, next, here, written.0.0)))

-- each other is answered with what was taken, by a link that then has these fields
number_other : (a b : Announced) (e f : End) (out : Wire) (acked' taken n c : ℕ) (xs : List Flying)
    (seq ack k : ℕ) (message : List ℕ) (s t : State) (ps : List PacketValue) →
    Running a b e f out (record { acked = acked'; taken = taken; flight = data_at n c ∷ xs }) →
    IsNext e f (carry seq ack k message) →
    AreWritten f.sent (data_at n c ∷ xs) (carry seq ack k message ∷ of_window (drop (suc e.passed) f.emitted)) →
    Acked e.link s e.sent c → Keeps s t → Knows b t → t.own ≡ s.own → (seq ≡ s.expected → ⊥) →
    MayEmit a e.sent c taken ps →
    Next a b e f out (record { acked = acked'; taken = taken; flight = data_at n c ∷ xs }) (arrives ∷ [])
    (record e { link = t; emitted = e.emitted ++ ps; passed = suc e.passed })
number_other a b e f out acked' taken n c xs seq ack k message s t ps h at written acks keeps knows own unequal emits =
    let expected : s.expected ≡ (taken + 1) % 8 = acks.expected ∙ h.sim.back_half.expected in
    let stays : taken_with (data_at n c) taken ≡ taken =
    taken_no n c taken (λ here. unequal (omega (arith, here, expected, written.0.0))) in
    arrive a b e f out acked' taken (data_at n c) xs (carry seq ack k message) t e.taken ps h.sim at written
    (keeps.unacked ∙ acks.unacked) (keeps.oldest ∙ acks.oldest)
    (keeps.expected ∙ expected ∙ ap (λ (i : ℕ). (i + 1) % 8) (sym stays))
    (h.sim.back_half.taken ∙ ap (λ (i : ℕ). take i f.sent) (sym stays)) knows (own ∙ acks.own ∙ h.sim.own)
    (subst (λ (i : ℕ). MayEmit a e.sent c i ps) (sym stays) emits)

heard_data_up : (a b : Announced) (e f : End) (out : Wire) (acked' taken : ℕ) (xs : List Flying)
    (seq ack k : ℕ) (message : List ℕ) → IsUp e.link → Running a b e f out (record { acked = acked'; taken = taken; flight = xs }) →
    IsNext e f (carry seq ack k message) →
    AreWritten f.sent xs (carry seq ack k message ∷ of_window (drop (suc e.passed) f.emitted)) →
    Heard a b e f out (record { acked = acked'; taken = taken; flight = xs }) (arrives ∷ []) (carry seq ack k message)
    (on_number seq (acknowledged ack e.link))
heard_data_up a b e f out acked' taken [] seq ack k message is_up h at written = absurd written
heard_data_up a b e f out acked' taken (acknowledgement c ∷ xs) seq ack k message is_up h at written = absurd written.0
heard_data_up a b e f out acked' taken (data_at n c ∷ xs) seq ack k message is_up h at written =
    let back : Wire = record { acked = acked'; taken = taken; flight = data_at n c ∷ xs } in
    let p : PacketValue = carry seq ack k message in
    let first = front a b e f out acked' taken (data_at n c) xs h in
    let s : State = acknowledged ack e.link in
    let t = acked_front a b e f out acked' taken (data_at n c) xs p ack h first is_up refl written.0.1 in
    let knows = knows_acked b t h.sim.knows in
    let last : last_received s ≡ taken % 8 = last_received_is s taken (t.expected ∙ h.sim.back_half.expected) in
    heard_if a b e f out back (arrives ∷ []) p (is_expected seq s) _ _
    (λ is. number_taken a b e f out acked' taken n c xs seq ack k message s h at written t first
    (grind (arith, nat_tests, is)))
    (λ is. other_holds (λ y. Heard a b e f out back (arrives ∷ []) p y) seq s
    (λ left passed. number_other a b e f out acked' taken n c xs seq ack k message s (keeping s left passed) _ h at written t
    (record { unacked = refl; oldest = refl; expected = refl }) (record { window = knows.window; size = knows.size }) refl
    (grind (arith, nat_tests, is)) (emits_rr a e.sent c taken (last_received s) last))
    (λ left passed. number_other a b e f out acked' taken n c xs seq ack k message s (keeping s left passed) _ h at written t
    (record { unacked = refl; oldest = refl; expected = refl }) (record { window = knows.window; size = knows.size }) refl
    (grind (arith, nat_tests, is)) (emits_rj a e.sent c taken (last_received s) last))
    (λ left passed silent. number_other a b e f out acked' taken n c xs seq ack k message s (keeping s left passed) [] h at written t
    (record { unacked = refl; oldest = refl; expected = refl }) (record { window = knows.window; size = knows.size }) refl
    (grind (arith, nat_tests, is)) (emits_nothing a e.sent c taken)))

-- ---- a packet is found

-- how the packets of the window in flight begin
pub in_front : (a b : Announced) (e f : End) (out back : Wire) (p : PacketValue) →
    Running a b e f out back → IsNext e f p → is_of_window p ≡ true →
    AreWritten f.sent back.flight (p ∷ of_window (drop (suc e.passed) f.emitted))
in_front a b e f out back p h at is =
    subst (AreWritten f.sent back.flight) (of_window-front e.passed f.emitted p at is) h.sim.back_half.flight

heard_rr : (a b : Announced) (e f : End) (out back : Wire) (y : ℕ) (phase : Phase) →
    e.link.phase ≡ phase → Running a b e f out back → IsNext e f (control (rr y)) →
    Heard a b e f out back (found_at phase ∷ []) (control (rr y)) (on_rr phase y e.link)
heard_rr a b e f out back y Up is h at =
    heard_rr_up a b e f out back.acked back.taken back.flight y is h at (in_front a b e f out back (control (rr y)) h at refl)
heard_rr a b e f out back y _ is h at = heard_ignored a b e f out back (control (rr y)) h.sim at

heard_rj : (a b : Announced) (e f : End) (out back : Wire) (y : ℕ) (phase : Phase) →
    e.link.phase ≡ phase → Running a b e f out back → IsNext e f (control (rj y)) →
    Heard a b e f out back (found_at phase ∷ []) (control (rj y)) (on_rj phase y e.link)
heard_rj a b e f out back y Up is h at =
    heard_rj_up a b e f out back.acked back.taken back.flight y is h at (in_front a b e f out back (control (rj y)) h at refl)
heard_rj a b e f out back y _ is h at = heard_ignored a b e f out back (control (rj y)) h.sim at

heard_srj : (a b : Announced) (e f : End) (out back : Wire) (y : ℕ) (phase : Phase) →
    Running a b e f out back → IsNext e f (control (srj y)) →
    Heard a b e f out back (found_at phase ∷ []) (control (srj y)) (on_srj phase y e.link)
heard_srj a b e f out back y Up h at =
    heard_srj_up a b e f out back back.flight y (in_front a b e f out back (control (srj y)) h at refl)
heard_srj a b e f out back y _ h at = heard_ignored a b e f out back (control (srj y)) h.sim at

heard_data : (a b : Announced) (e f : End) (out back : Wire) (seq ack k : ℕ) (message : List ℕ)
    (phase : Phase) → e.link.phase ≡ phase → Running a b e f out back → IsNext e f (carry seq ack k message) →
    Heard a b e f out back (found_at phase ∷ []) (carry seq ack k message) (on_data phase seq ack e.link)
heard_data a b e f out back seq ack k message Up is h at =
    heard_data_up a b e f out back.acked back.taken back.flight seq ack k message is h at
    (in_front a b e f out back (carry seq ack k message) h at refl)
heard_data a b e f out back seq ack k message _ is h at =
    heard_ignored a b e f out back (carry seq ack k message) h.sim at

heard_packet : (a b : Announced) (e f : End) (out back : Wire) (p : PacketValue) →
    Running a b e f out back → IsNext e f p →
    Heard a b e f out back (comes e f (hears p)) p (on_packet p e.link)
heard_packet a b e f out back (control close) h at = heard_close a b e f out back e.link.phase h.sim at
heard_packet a b e f out back (control (init_a y)) h at =
    heard_either a b e f out back [] (control (init_a y)) (y == 0) _ _ (heard_ignored a b e f out back (control (init_a y)) h.sim at)
    (heard_init_a a b e f out back y e.link.role e.link.phase h.sim at)
heard_packet a b e f out back (control (init_b y)) h at =
    heard_init_b a b e f out back y e.link.role e.link.phase refl h.sim at
heard_packet a b e f out back (control (init_c y)) h at =
    heard_if a b e f out back [] (control (init_c y)) (y == 0) _ _
    (λ none. heard_ignored a b e f out back (control (init_c y)) h.sim at)
    (λ some. heard_init_c a b e f out back y e.link.role e.link.phase refl refl some h.sim at)
heard_packet a b e f out back (control (rr y)) h at = heard_rr a b e f out back y e.link.phase refl h at
heard_packet a b e f out back (control (rj y)) h at = heard_rj a b e f out back y e.link.phase refl h at
heard_packet a b e f out back (control (srj y)) h at = heard_srj a b e f out back y e.link.phase h at
heard_packet a b e f out back (carry seq ack k message) h at =
    heard_data a b e f out back seq ack k message e.link.phase refl h at

-- a link that has ended is not up
halted_loses : (phase : Phase) → is_halted phase ≡ true → found_at phase ≡ loses
halted_loses Halted h = refl
halted_loses Up h = absurd (true≢false (sym h))
halted_loses _ h = refl

pub heard : (a b : Announced) (e f : End) (out back : Wire) (p : PacketValue) →
    Running a b e f out back → IsNext e f p →
    Next a b e f out back (comes e f (hears p)) (gone_past (moved_by e (packet_found p)))
heard a b e f out back p h at =
    heard_if a b e f out back (comes e f (hears p)) p (is_halted e.link.phase) _ _
    (λ halted. subst (λ (act : Act). Heard a b e f out back (becomes act (Some p)) p (answers_halted e.link))
    (sym (halted_loses e.link.phase halted)) (heard_halted a b e f out back p h.sim at))
    (λ on. heard_packet a b e f out back p h at)

-- ---- the link's own events

abbrev Moved : (a b : Announced) (e f : End) (out back : Wire) → Event → Effect → Type 0
Moved a b e f out back event effect = Next a b e f out back [] (with_effect e event effect)

moved_either : (a b : Announced) (e f : End) (out back : Wire) (event : Event) (t : Bool) (x y : Effect) →
    Moved a b e f out back event x → Moved a b e f out back event y → Moved a b e f out back event (if t then x else y)
moved_either a b e f out back event true x y h k = h
moved_either a b e f out back event false x y h k = k

-- nothing is emitted
stays_quiet : (a b : Announced) (e f : End) (out back : Wire) → Sim a b e f out back →
    Next a b e f out back [] (record e { emitted = e.emitted ++ [] })
stays_quiet a b e f out back h =
    emit a b e f out back e.link [] h (same e.link) h.knows h.own (emits_nothing a e.sent out.acked back.taken)

begins : (a b : Announced) (e f : End) (out back : Wire) → Sim a b e f out back →
    Next a b e f out back [] (moved_by e to_begin)
begins a b e f out back h =
    moved_either a b e f out back to_begin (is_halted e.link.phase) _ _ (stays_quiet a b e f out back h)
    (emit a b e f out back (record e.link { phase = AwaitsInitA }) _ h (record { unacked = refl; oldest = refl; expected = refl })
    (record { window = λ k. absurd k; size = λ k. absurd k }) h.own
    (emits_init_a a e.sent out.acked back.taken e.link.own.window (ap (λ (x : Announced). x.window) h.own)))

closes : (a b : Announced) (e f : End) (out back : Wire) → Sim a b e f out back → e.link.phase ≡ Up →
    Next a b e f out back [] (moved_by e to_close)
closes a b e f out back h is_up =
    moved_either a b e f out back to_close (is_halted e.link.phase) _ _ (stays_quiet a b e f out back h)
    (emit a b e f out back (moved e.link Closing) _ h (record { unacked = refl; oldest = refl; expected = refl })
    (record {
      window = λ k. h.knows.window (subst KnowsWindow (sym is_up) tt);
      size = λ k. h.knows.size (subst KnowsSize (sym is_up) tt);
    }) h.own (emits_close a e.sent out.acked back.taken))

moved_bad : (a b : Announced) (e f : End) (out back : Wire) (phase : Phase) → Sim a b e f out back →
    Moved a b e f out back bad_found (on_bad phase e.link)
moved_bad a b e f out back Up h =
    moved_either a b e f out back bad_found (is_enough e.link) _ _ (stays_quiet a b e f out back h)
    (emit a b e f out back (keeping e.link (until_over e.link) e.link.passed) _ h (record { unacked = refl; oldest = refl; expected = refl })
    (record { window = h.knows.window; size = h.knows.size }) h.own
    (emits_rj a e.sent out.acked back.taken (last_received e.link) (last_received_is e.link back.taken h.back_half.expected)))
moved_bad a b e f out back _ h = stays_quiet a b e f out back h

hears_bad : (a b : Announced) (e f : End) (out back : Wire) → Sim a b e f out back →
    Next a b e f out back [] (moved_by e bad_found)
hears_bad a b e f out back h =
    moved_either a b e f out back bad_found (is_halted e.link.phase) _ _ (stays_quiet a b e f out back h)
    (moved_bad a b e f out back e.link.phase h)

-- what goes out again
emits_repeated : (a b : Announced) (e f : End) (out back : Wire) (role : Role) (phase : Phase) → Sim a b e f out back →
    out.acked ≤ length e.sent → MayEmit a e.sent out.acked back.taken (packets_of (repeated role phase e.link))
emits_repeated a b e f out back Caller AwaitsInitA h low =
    emits_init_a a e.sent out.acked back.taken e.link.own.window (ap (λ (x : Announced). x.window) h.own)
emits_repeated a b e f out back Caller AwaitsInitB h low =
    emits_init_b a e.sent out.acked back.taken e.link.own.size_code (ap (λ (x : Announced). x.size_code) h.own)
emits_repeated a b e f out back Caller AwaitsInitC h low =
    emits_init_c a e.sent out.acked back.taken e.link.own.window (ap (λ (x : Announced). x.window) h.own)
emits_repeated a b e f out back _ Up h low =
    emits_outstanding a e.link e.sent out.acked back.taken h.out_half.unacked h.out_half.oldest h.back_half.expected low
emits_repeated a b e f out back _ Closing h low = emits_close a e.sent out.acked back.taken
emits_repeated a b e f out back _ _ h low = emits_nothing a e.sent out.acked back.taken

times_out : (a b : Announced) (e f : End) (out back : Wire) → Running a b e f out back →
    Next a b e f out back [] (moved_by e timed_out)
times_out a b e f out back h =
    moved_either a b e f out back timed_out (is_halted e.link.phase) _ _ (stays_quiet a b e f out back h.sim)
    (moved_either a b e f out back timed_out (nat_lt (e.link.timeouts + 1) TIMEOUTS_MAX) _ _
    (emit a b e f out back (record e.link { timeouts = e.link.timeouts + 1; reject_left = 0 }) _ h.sim
    (record { unacked = refl; oldest = refl; expected = refl })
    (record { window = h.sim.knows.window; size = h.sim.knows.size }) h.sim.own
    (emits_repeated a b e f out back e.link.role e.link.phase h.sim (acked_sent a b e f out back h)))
    (emit a b e f out back (record e.link { phase = Halted; timeouts = TIMEOUTS_MAX; reject_left = 0 }) _ h.sim
    (record { unacked = refl; oldest = refl; expected = refl })
    (record { window = λ k. absurd k; size = λ k. absurd k }) h.sim.own
    (emits_close a e.sent out.acked back.taken)))

-- a message is sent, by a link that is up
sent : (a b : Announced) (e f : End) (out back : Wire) (message : List ℕ) →
    Running a b e f out back → HasRoom e.link →
    Moved a b e f out back (to_send message) (on_event (to_send message) e.link)
sent a b e f out back message h room =
    let counts = always_counts b.window a.window (machine a b e f out back) h.other h.window h.reached in
    let low : out.acked ≤ length e.sent = omega (arith, counts.0.0, counts.0.1) in
    let agreed : e.link.window ≡ b.window = h.sim.knows.window (subst KnowsWindow (sym room.0) tt) in
    let kept : length e.link.unacked + out.acked ≡ length e.sent =
    omega (arith, low, ap length h.sim.out_half.unacked, length-drop out.acked e.sent) in
    let packet : PacketValue = data_packet e.link (next_number e.link) message in
    let last : last_received e.link ≡ back.taken % 8 = last_received_is e.link back.taken h.sim.back_half.expected in
    let writes : IsWritten (e.sent ++ message ∷ []) (data_at (length e.sent) back.taken) packet =
    (omega (arith, h.sim.out_half.oldest, kept), last, slice_get-last e.sent message) in
    record {
      gone = sends message ∷ [];
      ps = packet ∷ [];
      out' = record out { flight = out.flight ++ data_at (length e.sent) back.taken ∷ [] };
      back' = back;
      allowed = (omega (arith, room.1, agreed, kept), tt);
      leads = refl;
      emitted = refl;
      emits = (writes, tt);
      sent = refl;
      sim = record {
        out_half = record {
          unacked = ap (λ (l : List (List ℕ)). l ++ message ∷ []) h.sim.out_half.unacked
              ∙ sym (drop-append-le out.acked e.sent (message ∷ []) low);
          oldest = h.sim.out_half.oldest;
          taken = h.sim.out_half.taken ∙ sym (take-append-le out.taken e.sent (message ∷ []) counts.0.1);
          expected = h.sim.out_half.expected;
          passed = omega (arith, h.sim.out_half.passed, length-append e.emitted (packet ∷ []));
          flight = subst (AreWritten (e.sent ++ message ∷ []) (out.flight ++ data_at (length e.sent) back.taken ∷ []))
              (sym (of_window-emitted f.passed e.emitted (packet ∷ []) h.sim.out_half.passed))
              (AreWritten-append (e.sent ++ message ∷ []) out.flight (data_at (length e.sent) back.taken ∷ []) _ _
              (AreWritten-more e.sent (message ∷ []) out.flight _ h.sim.out_half.flight)
              (writes, tt));
        };
        back_half = record {
          unacked = h.sim.back_half.unacked;
          oldest = h.sim.back_half.oldest;
          taken = h.sim.back_half.taken;
          expected = h.sim.back_half.expected;
          passed = h.sim.back_half.passed;
          flight = h.sim.back_half.flight;
        };
        knows = record { window = h.sim.knows.window; size = h.sim.knows.size };
        other_knows = h.sim.other_knows;
        own = h.sim.own;
        other_own = h.sim.other_own;
        said = AllSaid-append a e.emitted (packet ∷ []) h.sim.said (tt, tt);
        other_said = h.sim.other_said;
      };
    }

if_not : (a b : Announced) (e f : End) (out back : Wire) (event : Event) (t : Bool) (x y : Effect) → t ≡ false →
    Moved a b e f out back event y → Moved a b e f out back event (if t then x else y)
if_not a b e f out back event t x y is h =
    subst (λ (z : Bool). Moved a b e f out back event (if z then x else y)) (sym is) h

pub moves_itself : (a b : Announced) (e f : End) (out back : Wire) (event : Event) →
    Running a b e f out back → MayCall e.link event → Next a b e f out back [] (moved_by e event)
moves_itself a b e f out back to_begin h may = begins a b e f out back h.sim
moves_itself a b e f out back (packet_found p) h may = absurd may
moves_itself a b e f out back bad_found h may = hears_bad a b e f out back h.sim
moves_itself a b e f out back timed_out h may = times_out a b e f out back h
moves_itself a b e f out back (to_send message) h may =
    if_not a b e f out back (to_send message) (is_halted e.link.phase) _ _ (ap is_halted may.0.0)
    (sent a b e f out back message h may.0)
moves_itself a b e f out back to_close h may = closes a b e f out back h.sim may
