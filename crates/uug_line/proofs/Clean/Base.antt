-- The two ends of a session, told by numbers, as far as a line on which nothing is lost needs to know them; and what one of
-- them does with the packets that come to it.
use Rattle.std.proofs.Common.{◌≡◌, ◌⊎◌, inl, inr, ◌≢◌, ℕ, suc, ◌<◌, ◌≤◌, Bool, true, false, All, List, [], ◌∷◌, ◌++◌, length, length-append, slice_get, Option, Some, None, MatchOption, refl, ap, sym, subst, ◌∙◌, arith}
use Rattle.std.proofs.lemmas.Bool.{cases_lt}
use Rattle.std.proofs.lemmas.List.{append_assoc}
use Rattle.uug_conversation.specs.Turns.{other}
use Rattle.uug_link.specs.Arrivals.{IsPlace, place_of}
use Rattle.uug_link.specs.OnTheWay.{AreComing}
use Rattle.uug_link.specs.State.{IsPlain, IsUp}
use Rattle.uug_link.specs.Step.{Emission, only}
use Rattle.uug_link.specs.Terms.{IsWindow}
use Rattle.uug_link.specs.TwoLinks.{End, IsRun, packets_of}
use Rattle.uug_packet.specs.Packet.{PacketValue, close, control}
use Rattle.uug_packet.specs.Spelling.{canonical}
use Rattle.uug_packet.specs.WellFormed.{IsWellFormed}
use Rattle.uug_session.specs.Arriving.{Receiver, holds, takes_all, takes_if, takes_up}
use Rattle.uug_conversation.specs.Count.{Count, count_keeper}
use Rattle.uug_session.specs.EndStep.{EndEffect, Stage, end_step, linked, message_of, packet_found_whole, packets, time_ran_out}
use Rattle.uug_session.specs.Finding.{Finding, finding}
use Rattle.uug_conversation.specs.View.{Seen, floor}
use Rattle.uug_conversation.specs.declared.side.Side.{Side}
use Rattle.uug_line.specs.Belongings.{Belongings, SetupValue}
use Rattle.uug_line.specs.LineEndState.{LineEndState, JournalState, Participant, bytes_in, does, found_at, messages_sent, packets_in, took}
use Rattle.uug_line.specs.Run.{parties}
use Rattle.uug_line.specs.RunKeeper.{view_at}
use Rattle.uug_conversation.specs.Sides.{AtBoth, at}
use Rattle.uug_line.specs.Speaking.{HasSpoken}
use Rattle.uug_line.specs.Taking.{line_taker, packet_taken_up, takes_sent}
use Rattle.uug_line.proofs.Clean.Ways.{packets_of-append}
use Rattle.uug_line.proofs.World.Steps.{count_player}
use Rattle.uug_link.proofs.ArrivalLemmas.{place_is}
use Rattle.uug_line.proofs.Clean.Finds.{found_first}
use Rattle.uug_session.proofs.ArrivingLemmas.{takes_next}

-- ---- packets on a line

abbrev pub written : List PacketValue → List ℕ
written [] = []
written (p ∷ ps) = canonical p ++ written ps

pub written-append : (ps more : List PacketValue) → written (ps ++ more) ≡ written ps ++ written more
written-append [] more = refl
written-append (p ∷ ps) more =
    ap (λ (l : List ℕ). canonical p ++ l) (written-append ps more) ∙ sym (append_assoc (canonical p) (written ps) (written more))

pub bytes_written : (es : List Emission) → bytes_in (packets es) ≡ written (packets_of es)
bytes_written [] = refl
bytes_written (e ∷ es) = ap (λ (l : List ℕ). canonical e.packet ++ l) (bytes_written es)

pub packets_written : (es : List Emission) → packets_in (packets es) ≡ packets_of es
packets_written [] = refl
packets_written (e ∷ es) = ap (λ (l : List PacketValue). e.packet ∷ l) (packets_written es)

pub with_close : (es : List Emission) → packets_of (es ++ only close) ≡ packets_of es ++ control close ∷ []
with_close es = packets_of-append es (only close)

-- ---- the two ends

-- an end on the line as an end of two links
abbrev pub as_end : LineEndState Count → End
as_end e = record {
  link = e.state.link;
  sent = e.log.sent;
  taken = e.log.taken;
  emitted = e.log.packets;
  passed = e.log.passed;
}

abbrev pub with_line : List ℕ → LineEndState Count → LineEndState Count
with_line line e = record { state = e.state; log = e.log; line = line }

-- how the end on the side sees the conversation, and what takes up what comes to it from the other end
abbrev pub seen : SetupValue → AtBoth Belongings → Side → List Seen
seen setup brought side = view_at (parties setup brought) side

abbrev pub receiver : SetupValue → AtBoth Belongings → Side → (others : LineEndState Count) → Receiver (LineEndState Count)
receiver setup brought side others = line_taker (count_player setup brought side) others.log.packets

-- What is known of the end on the side and of the other one, and that it stays so: B holds of them.
pub record Base (setup : SetupValue) (brought : AtBoth Belongings) (B : Side → LineEndState Count → LineEndState Count → Type 0) : Type 0 where
  pub turned : (side : Side) (x y : LineEndState Count) → B side x y → B (other side) y x
  pub turned_back : (side : Side) (x y : LineEndState Count) → B (other side) x y → B side y x
  pub relined : (side : Side) (line : List ℕ) (x y : LineEndState Count) → B side x y → B side (with_line line x) y
  pub hears : (side : Side) (p : PacketValue) (place : ℕ) (x y : LineEndState Count) → x.state.stage ≡ linked →
      place_of p y.log.packets x.log.passed ≡ Some place → B side x y →
      B side (packet_taken_up (count_player setup brought side) p place x) y
  pub waits : (side : Side) (x y : LineEndState Count) → B side x y →
      B side (does (count_player setup brought side) time_ran_out x) y
  pub window : (side : Side) → IsWindow (at side setup).own.window
  pub plain : (side : Side) (x y : LineEndState Count) → B side x y → IsPlain x.state.link
  pub run : (side : Side) (x y : LineEndState Count) → B side x y →
      IsRun (at side setup).own (at (other side) setup).own (record { near = as_end x; far = as_end y })
  pub formed : (side : Side) (x y : LineEndState Count) → B side x y → All IsWellFormed x.log.packets
  pub opened : (side : Side) (x y : LineEndState Count) → B side x y → IsUp x.state.link → x.state.keeper.opened ≡ true
  pub sent : (side : Side) (x y : LineEndState Count) → B side x y → x.state.keeper.sent ≡ length x.log.sent
  pub taken : (side : Side) (x y : LineEndState Count) → B side x y → x.state.keeper.taken ≡ length x.log.taken
  pub to_floor : (side : Side) (x y : LineEndState Count) → B side x y →
      length x.log.sent ≤ floor (length x.log.taken) (seen setup brought side)
  pub spoken : (side : Side) (x y : LineEndState Count) → B side x y → HasSpoken (count_keeper (seen setup brought side)) x.state

-- ---- packets that come

slice_get-there : (before : List PacketValue) (p : PacketValue) (ps : List PacketValue) →
    slice_get (before ++ p ∷ ps) (length before) ≡ Some p
slice_get-there [] p ps = refl
slice_get-there (q ∷ before) p ps = slice_get-there before p ps

-- the place at which the next one is found
pub record FoundAt (p : PacketValue) (emitted : List PacketValue) (passed : ℕ) : Type 0 where
  pub place : ℕ
  pub there : place_of p emitted passed ≡ Some place
  pub is : IsPlace p emitted passed place

pub next_found : (from to : End) (p : PacketValue) (ps : List PacketValue) → AreComing from to (p ∷ ps) →
    FoundAt p from.emitted to.passed
next_found from to p ps coming =
    by (place_of p from.emitted to.passed) refl (place_is p from.emitted to.passed)
  where
    by : (o : Option ℕ) → place_of p from.emitted to.passed ≡ o →
        MatchOption o ((i : ℕ) → to.passed ≤ i → slice_get from.emitted i ≢ Some p)
        (λ i. IsPlace p from.emitted to.passed i) → FoundAt p from.emitted to.passed
    by None is none =
        absurd (none (length coming.before) coming.passed
        (ap (λ (l : List PacketValue). slice_get l (length coming.before)) coming.emitted
        ∙ slice_get-there coming.before p ps))
    by (Some place) is there = record { place = place; there = is; is = there }

place_before : (before ps : List PacketValue) (p : PacketValue) (passed place : ℕ) → passed ≤ length before →
    IsPlace p (before ++ p ∷ ps) passed place → place ≤ length before
place_before before ps p passed place behind is = by (cases_lt (length before) place)
  where
    by : ((length before < place) ⊎ (place ≤ length before)) → place ≤ length before
    by (inl far) = absurd (is.least (length before) behind far (slice_get-there before p ps))
    by (inr near) = near

pub still_coming : (from to then : End) (p : PacketValue) (ps : List PacketValue) (place : ℕ) →
    IsPlace p from.emitted to.passed place → then.passed ≡ suc place → AreComing from to (p ∷ ps) → AreComing from then ps
still_coming from to then p ps place is passed coming = record {
  before = coming.before ++ p ∷ [];
  emitted = coming.emitted ∙ sym (append_assoc coming.before (p ∷ []) ps);
  passed = omega (
    arith,
    passed,
    length-append coming.before (p ∷ []),
    place_before coming.before ps p to.passed place coming.passed
        (subst (λ (l : List PacketValue). IsPlace p l to.passed place) coming.emitted is),
  );
}

-- more are emitted
pub more_coming : (from then to : End) (ps more : List PacketValue) → then.emitted ≡ from.emitted ++ more →
    AreComing from to ps → AreComing then to (ps ++ more)
more_coming from then to ps more is coming = record {
  before = coming.before;
  emitted = is ∙ ap (λ (l : List PacketValue). l ++ more) coming.emitted ∙ append_assoc coming.before ps more;
  passed = coming.passed;
}

-- ---- what is written down with a packet

pub took_packets : (b : Bool) (message : List ℕ) (place : ℕ) (log : JournalState) → (took b message (found_at place log)).packets ≡ log.packets
took_packets true message place log = refl
took_packets false message place log = refl

pub took_passed : (b : Bool) (message : List ℕ) (place : ℕ) (log : JournalState) → (took b message (found_at place log)).passed ≡ suc place
took_passed true message place log = refl
took_passed false message place log = refl

pub took_sent : (b : Bool) (message : List ℕ) (place : ℕ) (log : JournalState) → (took b message (found_at place log)).sent ≡ log.sent
took_sent true message place log = refl
took_sent false message place log = refl

pub took_more : (b : Bool) (message : List ℕ) (place : ℕ) (log : JournalState) →
    length log.taken ≤ length (took b message (found_at place log)).taken
took_more true message place log = omega (arith, length-append log.taken (message ∷ []))
took_more false message place log = omega arith

-- ---- what comes to an end is taken up

-- These bytes have come to the end on the side, which then stands so.
pub record Came (setup : SetupValue) (brought : AtBoth Belongings) (B : Side → LineEndState Count → LineEndState Count → Type 0)
    (side : Side) (x y then : LineEndState Count) (bytes : List ℕ) : Type 0 where
  pub base : B side then x
  pub same : (tail : List ℕ) → takes_all (receiver setup brought side x) (holds (receiver setup brought side x) (bytes ++ tail) y)
      ≡ takes_all (receiver setup brought side x) (holds (receiver setup brought side x) tail then)
  pub sent : length y.log.sent ≤ length then.log.sent
  pub taken : length y.log.taken ≤ length then.log.taken

pub came_on : (setup : SetupValue) (brought : AtBoth Belongings) (B : Side → LineEndState Count → LineEndState Count → Type 0)
    (side : Side) (x a b c : LineEndState Count) (first later : List ℕ) → Came setup brought B side x a b first →
    Came setup brought B side x b c later → Came setup brought B side x a c (first ++ later)
came_on setup brought B side x a b c first later one two =
    let t = receiver setup brought side x in
    record {
      base = two.base;
      same = λ tail. ap (λ (l : List ℕ). takes_all t (holds t l a)) (append_assoc first later tail) ∙ one.same (later ++ tail)
          ∙ two.same tail;
      sent = omega (arith, one.sent, two.sent);
      taken = omega (arith, one.taken, two.taken);
    }

pub nothing_came : (setup : SetupValue) (brought : AtBoth Belongings) (B : Side → LineEndState Count → LineEndState Count → Type 0)
    (side : Side) (x y : LineEndState Count) → B side y x → Came setup brought B side x y y []
nothing_came setup brought B side x y base = record {
  base = base;
  same = λ tail. refl;
  sent = omega arith;
  taken = omega arith;
}

-- a packet was found at its place
pub came_so : (setup : SetupValue) (brought : AtBoth Belongings) (B : Side → LineEndState Count → LineEndState Count → Type 0) →
    Base setup brought B → (side : Side) (x y : LineEndState Count) (p : PacketValue) (place : ℕ) → y.state.stage ≡ linked →
    IsWellFormed p → place_of p x.log.packets y.log.passed ≡ Some place → B side y x →
    Came setup brought B side x y (packet_taken_up (count_player setup brought side) p place y) (canonical p)
came_so setup brought B base side x y p place on formed there is =
    let t = receiver setup brought side x in
    let participant = count_player setup brought side in
    let then = packet_taken_up participant p place y in
    let eff = with_effect participant p y in
    record {
      base = base.hears side p place y x on there is;
      same = λ tail.
          let bytes = canonical p ++ tail in
          takes_next (LineEndState Count) t bytes y
          ∙ ap (λ (f : Finding). takes_up (takes_all t) t f y)
          (ap (λ (stage : Stage). finding stage bytes) on ∙ found_first p tail formed)
          ∙ ap (λ (o : Option ℕ). takes_if (takes_all t) t (takes_sent participant p o y) bytes tail y) there;
      sent = sent_more eff;
      taken = took_more eff.took (message_of p) place y.log;
    }
  where
    with_effect : Participant Count → PacketValue → LineEndState Count → EndEffect Count
    with_effect participant p y = end_step participant.keeper participant.identity (packet_found_whole false p) y.state

    sent_more : (eff : EndEffect Count) →
        length y.log.sent ≤ length ((took eff.took (message_of p) (found_at place y.log)).sent ++ messages_sent eff.emitted)
    sent_more eff = omega (
      arith,
      ap (λ (l : List (List ℕ)). length l) (took_sent eff.took (message_of p) place y.log),
      length-append (took eff.took (message_of p) (found_at place y.log)).sent (messages_sent eff.emitted),
    )
