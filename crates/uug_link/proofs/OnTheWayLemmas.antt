-- What a line brings where nothing is lost: what goes out again, what is sent and what is heard, at a link that is up.
use Rattle.std.proofs.Common.{◌≡◌, ◌⊎◌, inl, inr, ℕ, zero, suc, ◌+◌, ◌%◌, ◌<◌, ◌≤◌, ◌==◌, nat_lt, Bool, true, false, if◌then◌else◌, All, List, [], ◌∷◌, ◌++◌, length, length-append, slice_get, None, Some, true≢false, refl, ap, sym, subst, ◌∙◌, arith}
use Rattle.std.proofs.lemmas.Bool.{cases_lt}
use Rattle.std.proofs.lemmas.Bool.Decides.{nat_tests}
use Rattle.std.proofs.lemmas.List.Elements.{All-nil, All-cons}
use Rattle.std.proofs.lemmas.List.{append_assoc}
use Rattle.uug_link.specs.Announced.{Announced}
use Rattle.uug_link.specs.Arrivals.{IsPlace, arrived}
use Rattle.uug_link.specs.OnTheWay.{IsTalk, IsData, expected_with, oldest_with, expected_behind, oldest_behind, TellOldest, AreComing, Hears, Sends, Repeats, StillBring, emitted_by}
use Rattle.uug_link.specs.State.{State, IsPlain, IsUp, is_halted}
use Rattle.uug_link.specs.Step.{Effect, Event, taken, answers, answers_halted, quiet, nothing, gave_up, Emission, acknowledged, data_packet, is_expected, last_received, next_number, on_data, on_event, on_other, on_packet, on_rj, on_rr, on_send, outstanding, packet_found, repeated, sent_again, step, timed_out, to_send, reject_left_after}
use Rattle.uug_link.specs.Terms.{IsWindow}
use Rattle.uug_link.specs.TwoLinks.{End, Ends, IsRun, packets_of}
use Rattle.uug_link.specs.declared.limits.TheConstants.{TIMEOUTS_MAX}
use Rattle.uug_link.specs.declared.phase.Phase.{Phase}
use Rattle.uug_link.specs.declared.phase.Phase.TheVariants.{Up, Halted}
use Rattle.uug_link.specs.declared.phase.Role.{Role}
use Rattle.uug_link.specs.declared.phase.Role.TheVariants.{Caller, Called}
use Rattle.uug_link.proofs.ArrivalLemmas.{arrival_runs}
use Rattle.uug_link.proofs.CountsRuns.{acks_count, counted}
use Rattle.uug_link.proofs.OtherLemmas.{other_holds}
use Rattle.uug_link.proofs.PeerLemmas.{beside}
use Rattle.uug_link.proofs.StrayLemmas.{up_step, next as next_stays}
use Rattle.uug_link.proofs.TwoLinksRuns.{within}
use Rattle.uug_packet.specs.Packet.{PacketValue, control, carry, rr, rj, srj, close, init_a, init_b, init_c}

-- ---- several packets

pub expected_behind-append : (ps qs : List PacketValue) (e : ℕ) →
    expected_behind (ps ++ qs) e ≡ expected_behind qs (expected_behind ps e)
expected_behind-append [] qs e = refl
expected_behind-append (p ∷ ps) qs e = expected_behind-append ps qs (expected_with p e)

pub oldest_behind-append : (ps qs : List PacketValue) (o : ℕ) →
    oldest_behind (ps ++ qs) o ≡ oldest_behind qs (oldest_behind ps o)
oldest_behind-append [] qs o = refl
oldest_behind-append (p ∷ ps) qs o = oldest_behind-append ps qs (oldest_with p o)

-- ---- what goes out again

-- the packets of these messages, from this number on
abbrev again : State → ℕ → List (List ℕ) → List PacketValue
again s number messages = packets_of (sent_again (data_packet s) number messages)

again_talk : (s : State) (number : ℕ) (messages : List (List ℕ)) → All IsTalk (again s number messages)
again_talk s number [] = All-nil IsTalk
again_talk s number (message ∷ messages) =
    All-cons IsTalk (data_packet s number message) (again s ((number + 1) % 8) messages) tt
    (again_talk s ((number + 1) % 8) messages)

differs_by : (seq e : ℕ) (t : Bool) → (seq == e) ≡ t → (seq ≡ e → ⊥) → (if t then (e + 1) % 8 else e) ≡ e
differs_by seq e true is other = absurd (other (grind (arith, nat_tests, is)))
differs_by seq e false is other = refl

equals_by : (seq e : ℕ) (t : Bool) → (seq == e) ≡ t → seq ≡ e → (if t then (e + 1) % 8 else e) ≡ (e + 1) % 8
equals_by seq e true is same = refl
equals_by seq e false is same = absurd (other same)
  where
    other : seq ≡ e → ⊥
    other same = grind (arith, nat_tests, is, same)

-- all are brought from the expected one on, which is so many behind the first of them
again_brings : (s : State) (number : ℕ) (messages : List (List ℕ)) (k e : ℕ) → number < 8 → length messages ≤ 7 →
    k ≤ length messages → e ≡ (number + k) % 8 → expected_behind (again s number messages) e ≡ (number + length messages) % 8
again_brings s number [] k e low few within is = omega (arith, low, within, is)
again_brings s number (message ∷ messages) zero e low few within is =
    let here : number ≡ e = omega (arith, low, is) in
    ap (λ (x : ℕ). expected_behind (again s ((number + 1) % 8) messages) x) (equals_by number e (number == e) refl here)
    ∙ again_brings s ((number + 1) % 8) messages zero ((e + 1) % 8) (omega arith) (omega (arith, few)) (omega arith)
    (omega (arith, here)) ∙ omega (arith, low)
again_brings s number (message ∷ messages) (suc k) e low few within is =
    let other : number ≡ e → ⊥ = λ (same : number ≡ e). omega (arith, same, low, few, within, is) in
    ap (λ (x : ℕ). expected_behind (again s ((number + 1) % 8) messages) x) (differs_by number e (number == e) refl other)
    ∙ again_brings s ((number + 1) % 8) messages k e (omega arith) (omega (arith, few)) (omega (arith, within))
    (omega (arith, is, low)) ∙ omega (arith, low)

-- the number of the last packet received says which one is expected
last_says : (s : State) → s.expected < 8 → (last_received s + 1) % 8 ≡ s.expected
last_says s low = omega (arith, low)

again_keeps : (s : State) (number : ℕ) (messages : List (List ℕ)) (o : ℕ) → s.expected < 8 → o ≡ s.expected →
    oldest_behind (again s number messages) o ≡ s.expected
again_keeps s number [] o low is = is
again_keeps s number (message ∷ messages) o low is =
    again_keeps s ((number + 1) % 8) messages ((last_received s + 1) % 8) low (last_says s low)

again_tells : (s : State) (number : ℕ) (messages : List (List ℕ)) → s.expected < 8 →
    TellOldest (again s number messages) s.expected ⊎ ((again s number messages ≡ []) × (messages ≡ []))
again_tells s number [] low = inr (refl, refl)
again_tells s number (message ∷ messages) low =
    inl (λ o. again_keeps s ((number + 1) % 8) messages ((last_received s + 1) % 8) low (last_says s low))

-- ---- a message is sent

sends_on : (s : State) (message : List ℕ) → s.phase ≡ Up → s.expected < 8 →
    Sends s (on_send message s).state (packets_of (on_send message s).emitted)
sends_on s message is low = record {
  is_up = is;
  expected = refl;
  oldest = refl;
  talk = All-cons IsTalk (data_packet s (next_number s) message) [] tt (All-nil IsTalk);
  brings = equals_by (next_number s) (next_number s) (next_number s == next_number s) refl refl
      ∙ omega (arith, length-append s.unacked (message ∷ []));
  tells = λ o. last_says s low;
}

-- at a link that is up the step is that of its event
live : (s : State) (event : Event) → IsUp s → step s event ≡ on_event event s
live s event is =
    subst (λ (phase : Phase). (if is_halted phase then answers_halted s else on_event event s) ≡ on_event event s) (sym is) refl

pub sends_so : (s : State) (message : List ℕ) → IsUp s → s.expected < 8 →
    Sends s (step s (to_send message)).state (emitted_by s (to_send message))
sends_so s message is low =
    subst (λ (e : Effect). Sends s e.state (packets_of e.emitted)) (sym (live s (to_send message) is))
    (sends_on s message is low)

-- ---- a timeout

-- what a link does then, by whether it goes on
abbrev late : (lasts : Bool) → State → Effect
late lasts s =
    if lasts
    then record {
      state = record s { timeouts = s.timeouts + 1; reject_left = 0 };
      emitted = repeated s.role s.phase s;
      outcome = nothing;
    }
    else answers (record s { phase = Halted; timeouts = TIMEOUTS_MAX; reject_left = 0 }) close gave_up

repeated_at : (role : Role) (s : State) → repeated role Up s ≡ outstanding s
repeated_at Caller s = refl
repeated_at Called s = refl

repeated_up : (s : State) → s.phase ≡ Up → repeated s.role s.phase s ≡ outstanding s
repeated_up s is = ap (λ (phase : Phase). repeated s.role phase s) is ∙ repeated_at s.role s

waits_so : (lasts : Bool) (s : State) → lasts ≡ true → s.phase ≡ Up → s.oldest < 8 → s.expected < 8 → length s.unacked ≤ 7 →
    Repeats s (late lasts s).state (packets_of (late lasts s).emitted)
waits_so false s lasts is low expected few = absurd cc
waits_so true s lasts is low expected few =
    subst (λ (l : List Emission). Repeats s (late true s).state (packets_of l)) (sym (repeated_up s is)) (record {
      is_up = is;
      expected = refl;
      oldest = refl;
      next = refl;
      talk = again_talk s s.oldest s.unacked;
      brings = λ count within. again_brings s s.oldest s.unacked count ((s.oldest + count) % 8) low few within refl;
      tells = again_tells s s.oldest s.unacked expected;
    })

pub repeats_so : (s : State) → IsUp s → s.oldest < 8 → s.expected < 8 → length s.unacked ≤ 7 → s.timeouts + 1 < TIMEOUTS_MAX →
    Repeats s (step s timed_out).state (emitted_by s timed_out)
repeats_so s is low expected few lasts =
    subst (λ (e : Effect). Repeats s e.state (packets_of e.emitted)) (sym (live s timed_out is))
    (waits_so (nat_lt (s.timeouts + 1) TIMEOUTS_MAX) s (grind (arith, nat_tests, lasts)) is low expected few)

-- ---- a packet is found

-- but for the number of the oldest, which a run of two links tells
record Heard (p : PacketValue) (s : State) (e : Effect) : Type 0 where
  is_up : e.state.phase ≡ Up
  expected : e.state.expected ≡ expected_with p s.expected
  talk : All IsTalk (packets_of e.emitted)
  known : e.state.oldest < 8 → length e.state.unacked ≤ 7 →
      expected_behind (packets_of e.emitted) (next_number e.state) ≡ next_number e.state
  tells : TellOldest (packets_of e.emitted) e.state.expected
      ⊎ ((packets_of e.emitted ≡ []) × (e.state.expected ≡ s.expected))
  answered : IsPlain s → IsData p → TellOldest (packets_of e.emitted) e.state.expected

heard_rr : (y : ℕ) (s : State) → s.phase ≡ Up → Heard (control (rr y)) s (quiet (acknowledged y s))
heard_rr y s is =
    let others = beside y s in
    record {
      is_up = others.phase ∙ is;
      expected = others.expected;
      talk = All-nil IsTalk;
      known = λ low few. refl;
      tells = inr (refl, others.expected);
      answered = λ plain none. absurd none;
    }

-- what is left is repeated
left_tells : (s left : State) → left.expected ≡ s.expected → s.expected < 8 →
    TellOldest (packets_of (outstanding left)) left.expected
    ⊎ ((packets_of (outstanding left) ≡ []) × (left.expected ≡ s.expected))
left_tells s left same low = by (again_tells left left.oldest left.unacked (omega (arith, same, low)))
  where
    by : TellOldest (packets_of (outstanding left)) left.expected
        ⊎ ((packets_of (outstanding left) ≡ []) × (left.unacked ≡ [])) →
        TellOldest (packets_of (outstanding left)) left.expected
        ⊎ ((packets_of (outstanding left) ≡ []) × (left.expected ≡ s.expected))
    by (inl told) = inl told
    by (inr none) = inr (none.0, same)

heard_rj : (y : ℕ) (s : State) → s.phase ≡ Up → s.expected < 8 → Heard (control (rj y)) s (on_rj Up y s)
heard_rj y s is low =
    let others = beside y s in
    let left : State = acknowledged y s in
    record {
      is_up = others.phase ∙ is;
      expected = others.expected;
      talk = again_talk left left.oldest left.unacked;
      known = λ first few.
          again_brings left left.oldest left.unacked (length left.unacked) (next_number left) first few (omega arith) refl;
      tells = left_tells s left others.expected low;
      answered = λ plain none. absurd none;
    }

same_test : (seq a b : ℕ) (t : Bool) → a ≡ b → (seq == a) ≡ t → expected_with (carry seq 0 0 []) b ≡ (if t then (a + 1) % 8 else a)
same_test seq a b t same is =
    ap (λ (e : ℕ). if seq == e then (e + 1) % 8 else e) (sym same) ∙ ap (λ (x : Bool). if x then (a + 1) % 8 else a) is

heard_number : (seq ack k : ℕ) (message : List ℕ) (s left : State) (t : Bool) (other : Effect) → left.expected ≡ s.expected →
    left.phase ≡ Up → (seq == left.expected) ≡ t →
    ((seq == left.expected) ≡ false → Heard (carry seq ack k message) s other) →
    Heard (carry seq ack k message) s
    (if t then answers
    (record left { expected = (left.expected + 1) % 8; reject_left = reject_left_after left; passed = None; timeouts = 0 })
    (rr seq) taken
    else other)
heard_number seq ack k message s left true other same is test others =
    let equal : seq ≡ left.expected = grind (arith, nat_tests, test) in
    let tells : (seq + 1) % 8 ≡ (left.expected + 1) % 8 = ap (λ (n : ℕ). (n + 1) % 8) equal in
    record {
      is_up = is;
      expected = sym (same_test seq left.expected s.expected true same test);
      talk = All-cons IsTalk (control (rr seq)) [] tt (All-nil IsTalk);
      known = λ first few. refl;
      tells = inl (λ o. tells);
      answered = λ plain data_packet o. tells;
    }
heard_number seq ack k message s left false other same is test others = others test

-- a link that is quiet on repeats may answer nothing
heard_other : (seq ack k : ℕ) (message : List ℕ) (s left : State) → left.expected ≡ s.expected → left.own ≡ s.own →
    left.phase ≡ Up → left.expected < 8 → (seq == left.expected) ≡ false →
    Heard (carry seq ack k message) s (on_other seq left)
heard_other seq ack k message s left same own is low test =
    other_holds (Heard (carry seq ack k message) s) seq left
    (λ rest passed. record {
      is_up = is;
      expected = sym (same_test seq left.expected s.expected false same test);
      talk = All-cons IsTalk (control (rr (last_received left))) [] tt (All-nil IsTalk);
      known = λ first few. refl;
      tells = inl (λ o. last_says left low);
      answered = λ plain data_packet o. last_says left low;
    })
    (λ rest passed. record {
      is_up = is;
      expected = sym (same_test seq left.expected s.expected false same test);
      talk = All-cons IsTalk (control (rj (last_received left))) [] tt (All-nil IsTalk);
      known = λ first few. refl;
      tells = inl (λ o. last_says left low);
      answered = λ plain data_packet o. last_says left low;
    })
    (λ rest passed silent. record {
      is_up = is;
      expected = sym (same_test seq left.expected s.expected false same test);
      talk = All-nil IsTalk;
      known = λ first few. refl;
      tells = inr (refl, same);
      answered = λ plain data_packet.
          absurd (true≢false (sym silent ∙ ap (λ (a : Announced). a.quiet) own ∙ plain));
    })

heard_on : (p : PacketValue) (s : State) → IsUp s → s.expected < 8 → IsTalk p → Heard p s (on_packet p s)
heard_on (control (rr y)) s is low talk =
    subst (λ (phase : Phase). Heard (control (rr y)) s (on_rr phase y s)) (sym is) (heard_rr y s is)
heard_on (control (rj y)) s is low talk =
    subst (λ (phase : Phase). Heard (control (rj y)) s (on_rj phase y s)) (sym is) (heard_rj y s is low)
heard_on (control (srj y)) s is low talk = absurd talk
heard_on (control close) s is low talk = absurd talk
heard_on (control (init_a y)) s is low talk = absurd talk
heard_on (control (init_b y)) s is low talk = absurd talk
heard_on (control (init_c y)) s is low talk = absurd talk
heard_on (carry seq ack k message) s is low talk =
    let left : State = acknowledged ack s in
    let others = beside ack s in
    subst (λ (phase : Phase). Heard (carry seq ack k message) s (on_data phase seq ack s)) (sym is)
    (heard_number seq ack k message s left (is_expected seq left) (on_other seq left) others.expected (others.phase ∙ is) refl
    (heard_other seq ack k message s left others.expected others.own (others.phase ∙ is)
    (omega (arith, others.expected, low))))

heard_so : (p : PacketValue) (s : State) → IsUp s → s.expected < 8 → IsTalk p → Heard p s (step s (packet_found p))
heard_so p s is low talk = subst (Heard p s) (sym (up_step s p is)) (heard_on p s is low talk)

-- ---- in a run of two links

slice_get-behind : (before : List PacketValue) (p : PacketValue) (ps : List PacketValue) →
    slice_get (before ++ p ∷ ps) (length before) ≡ Some p
slice_get-behind [] p ps = refl
slice_get-behind (q ∷ before) p ps = slice_get-behind before p ps

-- the packet that is found is at or before its own place among those that come
place_before : (before ps : List PacketValue) (p : PacketValue) (passed place : ℕ) → passed ≤ length before →
    IsPlace p (before ++ p ∷ ps) passed place → place ≤ length before
place_before before ps p passed place behind is = by (cases_lt (length before) place)
  where
    by : ((length before < place) ⊎ (place ≤ length before)) → place ≤ length before
    by (inl far) = absurd (is.least (length before) behind far (slice_get-behind before p ps))
    by (inr near) = near

still_coming : (from to : End) (p : PacketValue) (ps : List PacketValue) (place : ℕ) → AreComing from to (p ∷ ps) →
    IsPlace p from.emitted to.passed place → AreComing from (arrived p place to) ps
still_coming from to p ps place coming is = record {
  before = coming.before ++ p ∷ [];
  emitted = coming.emitted ∙ sym (append_assoc coming.before (p ∷ []) ps);
  passed = omega (
    arith,
    length-append coming.before (p ∷ []),
    place_before coming.before ps p to.passed place coming.passed
        (subst (λ (l : List PacketValue). IsPlace p l to.passed place) coming.emitted is),
  );
}

acked_oldest : (near far : Announced) (ends : Ends) (p : PacketValue) (place : ℕ) →
    IsWindow near.window → IsWindow far.window → IsRun near far ends → IsUp ends.near.link → IsTalk p →
    IsPlace p ends.far.emitted ends.near.passed place →
    (step ends.near.link (packet_found p)).state.oldest ≡ oldest_with p ends.near.link.oldest
acked_oldest near far ends (control (rr y)) place w v run is talk at =
    acks_count near far ends (control (rr y)) place y w v run is at.behind at.there refl
acked_oldest near far ends (control (rj y)) place w v run is talk at =
    acks_count near far ends (control (rj y)) place y w v run is at.behind at.there refl
acked_oldest near far ends (control (srj y)) place w v run is talk at = absurd talk
acked_oldest near far ends (control close) place w v run is talk at = absurd talk
acked_oldest near far ends (control (init_a y)) place w v run is talk at = absurd talk
acked_oldest near far ends (control (init_b y)) place w v run is talk at = absurd talk
acked_oldest near far ends (control (init_c y)) place w v run is talk at = absurd talk
acked_oldest near far ends (carry seq ack k message) place w v run is talk at =
    acks_count near far ends (carry seq ack k message) place ack w v run is at.behind at.there refl

-- it is a number
oldest_low : (p : PacketValue) (oldest number : ℕ) → IsTalk p → number ≡ oldest_with p oldest → number < 8
oldest_low (control (rr y)) oldest number talk is = omega (arith, is)
oldest_low (control (rj y)) oldest number talk is = omega (arith, is)
oldest_low (control (srj y)) oldest number talk is = absurd talk
oldest_low (control close) oldest number talk is = absurd talk
oldest_low (control (init_a y)) oldest number talk is = absurd talk
oldest_low (control (init_b y)) oldest number talk is = absurd talk
oldest_low (control (init_c y)) oldest number talk is = absurd talk
oldest_low (carry seq ack k message) oldest number talk is = omega (arith, is)

pub hears_so : (near far : Announced) (ends : Ends) (p : PacketValue) (ps : List PacketValue) (place : ℕ) →
    IsWindow near.window → IsWindow far.window → IsRun near far ends → IsUp ends.near.link → IsTalk p →
    AreComing ends.far ends.near (p ∷ ps) → IsPlace p ends.far.emitted ends.near.passed place →
    AreComing ends.far (arrived p place ends.near) ps
    × Hears p ends.near.link (arrived p place ends.near).link (emitted_by ends.near.link (packet_found p))
hears_so near far ends p ps place w v run is talk coming at =
    let s : State = ends.near.link in
    let e : Effect = step s (packet_found p) in
    let low : s.expected < 8 = omega (arith, (counted near far ends w v run).1.expected) in
    let h = heard_so p s is low talk in
    let oldest = acked_oldest near far ends p place w v run is talk at in
    let later = arrival_runs near far ends p place run at in
    let few : length e.state.unacked ≤ 7 = omega (
      arith,
      v.1,
      (within near far (record ends { near = arrived p place ends.near }) w v later).0,
    ) in
    let next = next_stays s p in (
      still_coming ends.far ends.near p ps place coming at,
      record {
        is_up = h.is_up;
        expected = h.expected;
        oldest = oldest;
        answers = record {
          talk = h.talk;
          known = subst (λ (n : ℕ). expected_behind (packets_of e.emitted) n ≡ next_number e.state) next
              (h.known (oldest_low p s.oldest e.state.oldest talk oldest) few);
          tells = h.tells;
        };
        answered = h.answered;
      },
    )

-- ---- what still comes brings and tells all

pub still_brings : (p : PacketValue) (before after : State) (answer : List PacketValue) → Hears p before after answer →
    StillBring p before after answer
still_brings p before after answer h = record {
  brings = λ other ps all. ap (expected_behind ps) h.expected ∙ all;
  tells = λ other ps all. ap (oldest_behind ps) h.oldest ∙ all;
  brings_back = λ other ps all.
      expected_behind-append ps answer other.expected ∙ ap (expected_behind answer) all ∙ h.answers.known;
  tells_back = λ other ps all. oldest_behind-append ps answer other.oldest ∙ told (oldest_behind ps other.oldest) all;
}
  where
    told : (o : ℕ) → o ≡ before.expected → oldest_behind answer o ≡ after.expected
    told o is = by h.answers.tells
      where
        by : TellOldest answer after.expected ⊎ ((answer ≡ []) × (after.expected ≡ before.expected)) →
            oldest_behind answer o ≡ after.expected
        by (inl tells) = tells o
        by (inr none) = ap (λ (l : List PacketValue). oldest_behind l o) none.0 ∙ is ∙ sym none.1
