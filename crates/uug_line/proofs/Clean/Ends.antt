-- What an end does on a line where nothing is lost: at each packet that it finds, at CLOSE, and when nothing has come for some
-- time.
use Rattle.std.proofs.Common.{◌≡◌, ◌⊎◌, inl, inr, ℕ, zero, suc, ◌<◌, ◌+◌, ◌%◌, ◌==◌, ◌&&◌, ◌||◌, Bool, true, false, if◌then◌else◌, List, [], ◌∷◌, ◌++◌, Option, Some, None, length, ◌≤◌, refl, ap, sym, subst, ◌∙◌, arith}
use Rattle.std.proofs.lemmas.List.{append_assoc, append-nil}
use Rattle.uug_link.specs.declared.limits.TheConstants.{TIMEOUTS_MAX, WINDOW_MAX}
use Rattle.uug_link.specs.declared.phase.Phase.{Phase}
use Rattle.uug_link.specs.declared.phase.Phase.TheVariants.{AwaitsInitC, Up, Closing, Halted}
use Rattle.uug_link.specs.OnTheWay.{IsTalk, Hears, Repeats, emitted_by, expected_with}
use Rattle.uug_link.specs.Outcomes.{MovesPhase}
use Rattle.uug_link.specs.State.{State, IsUp, is_halted}
use Rattle.uug_link.specs.Step.{Effect, Emission, OutcomeValue, nothing, up, taken, closed, gave_up, halted, answers, answers_halted, halt, moved, on_event, only, packet_found, step, timed_out, to_close, to_send}
use Rattle.uug_link.specs.TwoLinks.{packets_of}
use Rattle.uug_link.proofs.OnTheWayLemmas.{sends_so, repeats_so}
use Rattle.uug_packet.specs.Packet.{PacketValue, control, carry, close, rj, srj, rr, init_c, init_b, init_a}
use Rattle.uug_session.specs.declared.end.End.TheVariants as ends
use Rattle.uug_conversation.specs.Count.{Count, all_sent, all_taken, count_keeper}
use Rattle.uug_session.specs.EndStep.{EndEffect, EndState, Identity, Sending, packet_found_whole, time_ran_out, linked, ended, says_text, behind_link, closes_by, end_step, final_text, goes_on, goes_on_with, how_it_ends, is_up, late_link, leave, message_of, packets, sends, sends_by, sends_next, sends_up_to, sending_nothing, speaks_by, stage_step}
use Rattle.uug_conversation.specs.Keeper.{Keeper}
use Rattle.uug_conversation.specs.View.{Seen}
use Rattle.uug_line.proofs.Clean.Ways.{Speaks, hears_on, packets_of-append, speaks_nothing, speaks_on}

-- ---- what goes out behind an answer

speaks_next : {C : Type 0} (n : ℕ) (k : Keeper C) (s : State) (c : C) (next : Option (List ℕ)) → IsUp s → s.expected < 8 →
    ((t : State) (d : C) → IsUp t → t.expected < 8 →
    Speaks t (sends_up_to n k t d).link (packets_of (sends_up_to n k t d).emissions)) →
    Speaks s (sends_next (sends_up_to n k) k next s c).link (packets_of (sends_next (sends_up_to n k) k next s c).emissions)
speaks_next n k s c None is low more = speaks_nothing s is
speaks_next n k s c (Some message) is low more =
    let first = sends_so s message is low in
    let t : State = (step s (to_send message)).state in
    let x = sends_up_to n k t (k.sent c) in
    let later = more t (k.sent c) first.is_up (omega (arith, first.expected, low)) in
    subst (λ (l : List PacketValue). Speaks s x.link l) (sym (packets_of-append (step s (to_send message)).emitted x.emissions))
    (speaks_on s t x.link (emitted_by s (to_send message)) (packets_of x.emissions) first later)

speaks_if : {C : Type 0} (n : ℕ) (k : Keeper C) (s : State) (c : C) (room : Bool) → IsUp s → s.expected < 8 →
    ((t : State) (d : C) → IsUp t → t.expected < 8 →
    Speaks t (sends_up_to n k t d).link (packets_of (sends_up_to n k t d).emissions)) →
    Speaks s (sends_by room (sends_up_to n k) k s c).link (packets_of (sends_by room (sends_up_to n k) k s c).emissions)
speaks_if n k s c false is low more = speaks_nothing s is
speaks_if n k s c true is low more = speaks_next n k s c (k.next c) is low more

speaks_up_to : {C : Type 0} (n : ℕ) (k : Keeper C) (s : State) (c : C) → IsUp s → s.expected < 8 →
    Speaks s (sends_up_to n k s c).link (packets_of (sends_up_to n k s c).emissions)
speaks_up_to zero k s c is low = speaks_nothing s is
speaks_up_to (suc n) k s c is low = speaks_if n k s c _ is low (speaks_up_to n k)

-- ---- an end that talks finds a packet

-- it talks on
pub record TalksOn (p : PacketValue) (s : State) (x : EndEffect Count) : Type 0 where
  pub stage : x.state.stage ≡ linked
  pub emissions : List Emission
  pub emitted : x.emitted ≡ packets emissions
  pub hears : Hears p s x.state.link (packets_of emissions)

-- or all is said and taken with it, and CLOSE goes out behind the last packet
pub record ClosesThen (v : List Seen) (p : PacketValue) (s : State) (x : EndEffect Count) : Type 0 where
  pub stage : x.state.stage ≡ linked
  pub emissions : List Emission
  pub emitted : x.emitted ≡ packets (emissions ++ only close)
  pub before : State
  pub hears : Hears p s before (packets_of emissions)
  pub link : x.state.link ≡ moved before Closing
  pub over : (count_keeper v).is_over x.state.keeper ≡ true

abbrev pub TalksOrCloses : List Seen → PacketValue → State → EndEffect Count → Type 0
TalksOrCloses v p s x = TalksOn p s x ⊎ ClosesThen v p s x

close_at : (s : State) → IsUp s → step s to_close ≡ answers (moved s Closing) close nothing
close_at s is =
    subst (λ (phase : Phase). (if is_halted phase then answers_halted s else on_event to_close s) ≡ on_event to_close s) (sym is)
    refl

closes_so : (number : Option ℕ) (over : Bool) (v : List Seen) (p : PacketValue) (s : State) (took : Bool) (emitted : List Emission)
    (x : Sending Count) → (count_keeper v).is_over x.keeper ≡ over → Hears p s x.link (packets_of (emitted ++ x.emissions)) →
    TalksOrCloses v p s (goes_on_with number took emitted (closes_by over x))
closes_so number false v p s took emitted x is h =
    inl (record { stage = refl; emissions = emitted ++ x.emissions; emitted = refl; hears = h })
closes_so number true v p s took emitted x is h =
    let closed_at = close_at x.link h.is_up in
    inr (record {
      stage = refl;
      emissions = emitted ++ x.emissions;
      emitted = ap packets (ap (λ (e : Effect). emitted ++ (x.emissions ++ e.emitted)) closed_at
          ∙ sym (append_assoc emitted x.emissions (only close)));
      before = x.link;
      hears = h;
      link = ap (λ (e : Effect). e.state) closed_at;
      over = is;
    })

low_if : (t : Bool) (e : ℕ) → e < 8 → (if t then (e + 1) % 8 else e) < 8
low_if true e low = omega arith
low_if false e low = low

low_with : (p : PacketValue) (e : ℕ) → e < 8 → expected_with p e < 8
low_with (carry seq ack k message) e low = low_if (seq == e) e low
low_with (control c) e low = low

goes_on_so : (number : Option ℕ) (v : List Seen) (p : PacketValue) (s : State) (took : Bool) (e : Effect) (c : Count) → s.expected < 8 →
    Hears p s e.state (packets_of e.emitted) → TalksOrCloses v p s (goes_on number (count_keeper v) took e c)
goes_on_so number v p s took e c low h =
    let k = count_keeper v in
    let x = sends k e.state c in
    let speaks = speaks_up_to WINDOW_MAX k e.state c h.is_up
    (subst (λ (n : ℕ). n < 8) (sym h.expected) (low_with p s.expected low)) in
    subst (λ (b : Bool). TalksOrCloses v p s (goes_on_with number took e.emitted (speaks_by b k e.state c))) (sym (ap is_up h.is_up))
    (closes_so number (k.is_over x.keeper) v p s took e.emitted x refl
    (subst (λ (l : List PacketValue). Hears p s x.link l) (sym (packets_of-append e.emitted x.emissions))
    (hears_on p s e.state x.link (packets_of e.emitted) (packets_of x.emissions) h speaks)))

talks_behind : (number : Option ℕ) (v : List Seen) (id : Identity) (p : PacketValue) (s : State) (c : Count) (o : OutcomeValue) (e : Effect) → IsUp s →
    s.expected < 8 → MovesPhase o s.phase e.state.phase → Hears p s e.state (packets_of e.emitted) →
    TalksOrCloses v p s (behind_link number (count_keeper v) id false o e (message_of p) c)
talks_behind number v id p s c nothing e is low moves h = goes_on_so number v p s false e c low h
talks_behind number v id p s c up e is low moves h = absurd (let never : Up ≡ AwaitsInitC = sym is ∙ moves.0 in cc)
talks_behind number v id p s c taken e is low moves h =
    goes_on_so number v p s true e ((count_keeper v).taking (message_of p) c) low h
talks_behind number v id p s c closed e is low moves h = absurd (let never : Up ≡ Halted = sym h.is_up ∙ moves.1 in cc)
talks_behind number v id p s c gave_up e is low moves h = absurd (let never : Up ≡ Halted = sym h.is_up ∙ moves.1 in cc)
talks_behind number v id p s c halted e is low moves h = absurd (let never : Up ≡ Halted = sym is ∙ moves.0 in cc)

pub talks_or_closes : (v : List Seen) (id : Identity) (p : PacketValue) (e : EndState Count) → e.stage ≡ linked → IsUp e.link →
    e.link.expected < 8 →
    MovesPhase (step e.link (packet_found p)).outcome e.link.phase (step e.link (packet_found p)).state.phase →
    Hears p e.link (step e.link (packet_found p)).state (emitted_by e.link (packet_found p)) →
    TalksOrCloses v p e.link (end_step (count_keeper v) id (packet_found_whole false p) e)
talks_or_closes v id p e on is low moves h =
    subst (λ stage. TalksOrCloses v p e.link (stage_step (count_keeper v) id stage (packet_found_whole false p) e)) (sym on)
    (talks_behind e.number v id p e.link e.keeper (step e.link (packet_found p)).outcome (step e.link (packet_found p)) is low moves h)

-- ---- an end that closes

abbrev pub closing_end : (number : Option ℕ) → State → Count → EndState Count
closing_end number before c = record { stage = linked; link = moved before Closing; keeper = c; number = number }

-- nothing but CLOSE does anything
pub closing_ignores : (number : Option ℕ) (v : List Seen) (id : Identity) (p : PacketValue) (before : State) (c : Count) → IsTalk p →
    end_step (count_keeper v) id (packet_found_whole false p) (closing_end number before c)
    ≡ record { state = closing_end number before c; emitted = []; took = false }
closing_ignores number v id (control (rr y)) before c talk = refl
closing_ignores number v id (control (rj y)) before c talk = refl
closing_ignores number v id (control (srj y)) before c talk = absurd talk
closing_ignores number v id (control close) before c talk = absurd talk
closing_ignores number v id (control (init_a y)) before c talk = absurd talk
closing_ignores number v id (control (init_b y)) before c talk = absurd talk
closing_ignores number v id (control (init_c y)) before c talk = absurd talk
closing_ignores number v id (carry seq ack k message) before c talk = refl

over_has_parted : (opened sent took : Bool) → (opened && (sent && took)) ≡ true → (opened && (sent || took)) ≡ true
over_has_parted true true true is = refl
over_has_parted true true false is = absurd cc
over_has_parted true false took is = absurd cc
over_has_parted false sent took is = absurd cc

-- with CLOSE its session is done
abbrev pub done_end : (number : Option ℕ) → Identity → State → Count → EndEffect Count
done_end number id before c = record {
  state = record { stage = ended ends.Done; link = halt (moved before Closing); keeper = c; number = number };
  emitted = says_text (final_text id.side) ∷ [];
  took = false;
}

pub closing_ends : (number : Option ℕ) (v : List Seen) (id : Identity) (before : State) (c : Count) → (count_keeper v).is_over c ≡ true →
    end_step (count_keeper v) id (packet_found_whole false (control close)) (closing_end number before c) ≡ done_end number id before c
closing_ends number v id before c over =
    ap (λ (parted : Bool). record {
      state = record { stage = ended (how_it_ends parted ends.PeerClosed); link = halt (moved before Closing); keeper = c; number = number };
      emitted = leave parted id.side;
      took = false;
    }) (over_has_parted c.opened (all_sent v c) (all_taken v c) over)

-- ---- a timeout

-- what is outstanding goes out again, and the end talks on
pub record WaitsOn (s : State) (c : Count) (x : EndEffect Count) : Type 0 where
  pub stage : x.state.stage ≡ linked
  pub keeper : x.state.keeper ≡ c
  pub emissions : List Emission
  pub emitted : x.emitted ≡ packets emissions
  pub repeats : Repeats s x.state.link (packets_of emissions)

waits_with : (number : Option ℕ) (s : State) (c : Count) (e : Effect) → Repeats s e.state (packets_of e.emitted) →
    WaitsOn s c (goes_on_with number false e.emitted (sending_nothing e.state c))
waits_with number s c e r = record {
  stage = refl;
  keeper = refl;
  emissions = e.emitted;
  emitted = ap packets (append-nil e.emitted);
  repeats = r;
}

waits_behind : (number : Option ℕ) (id : Identity) (parted : Bool) (s : State) (c : Count) (o : OutcomeValue) (e : Effect) →
    MovesPhase o s.phase e.state.phase → Repeats s e.state (packets_of e.emitted) → WaitsOn s c (late_link number id parted o e c)
waits_behind number id parted s c nothing e moves r = waits_with number s c e r
waits_behind number id parted s c up e moves r = waits_with number s c e r
waits_behind number id parted s c taken e moves r = waits_with number s c e r
waits_behind number id parted s c closed e moves r = waits_with number s c e r
waits_behind number id parted s c gave_up e moves r = absurd (let never : Up ≡ Halted = sym r.is_up ∙ moves.1 in cc)
waits_behind number id parted s c halted e moves r = waits_with number s c e r

pub waits_on : (v : List Seen) (id : Identity) (e : EndState Count) → e.stage ≡ linked → IsUp e.link → e.link.oldest < 8 →
    e.link.expected < 8 → length e.link.unacked ≤ 7 → e.link.timeouts + 1 < TIMEOUTS_MAX →
    MovesPhase (step e.link timed_out).outcome e.link.phase (step e.link timed_out).state.phase →
    WaitsOn e.link e.keeper (end_step (count_keeper v) id time_ran_out e)
waits_on v id e on is low expected few lasts moves =
    let k = count_keeper v in
    let s = e.link in
    subst (λ stage. WaitsOn s e.keeper (stage_step k id stage time_ran_out e)) (sym on)
    (waits_behind e.number id (k.has_parted e.keeper) s e.keeper (step s timed_out).outcome (step s timed_out) moves
    (repeats_so s is low expected few lasts))
