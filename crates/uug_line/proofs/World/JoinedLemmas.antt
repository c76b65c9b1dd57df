-- The two ends of a session stay joined, and told by numbers each does the same.
use Rattle.std.proofs.Common.{◌≡◌, ℕ, ◌≤◌, max, Bool, true, false, List, length, Option, Some, MatchOption, slice_get, ◌≢◌, refl, sym, ap, subst, arith}
use Rattle.uug_conversation.specs.Turns.{other}
use Rattle.uug_link.specs.Arrivals.{IsPlace, place_of}
use Rattle.uug_link.specs.State.{IsUp, KnowsWindow, State}
use Rattle.uug_link.specs.declared.limits.TheConstants.{WINDOW_MAX}
use Rattle.uug_packet.specs.Packet.{PacketValue}
use Rattle.uug_conversation.specs.Count.{Count, count_keeper}
use Rattle.uug_session.specs.EndStep.{EndEffect, EndEvent, packet_found_whole, end_step, first_link, linked, message_of}
use Rattle.uug_conversation.specs.DialogueState.{DialogueState, end_keeper}
use Rattle.uug_conversation.specs.declared.side.Side.{Side}
use Rattle.uug_line.specs.Belongings.{Belongings, SetupValue, identity, party}
use Rattle.uug_line.specs.LineEndState.{LineEndState, JournalState, after_call, does, found_at, took}
use Rattle.uug_conversation.specs.Sides.{AtBoth, at}
use Rattle.uug_line.specs.Taking.{packet_taken_up}
use Rattle.uug_line.specs.World.{counted_end}
use Rattle.uug_line.proofs.World.AgreementLemmas.{is_invariant}
use Rattle.uug_line.proofs.AnswerLemmas.{taken_if}
use Rattle.uug_line.proofs.FoundLemmas.{passed_behind}
use Rattle.uug_line.proofs.World.Invariant.{DoesAlike, counted_effect, done_all, found}
use Rattle.uug_line.proofs.World.Joining.{EndsJoined, HasPassed, IsSoundSession, Joined, Moment, link_end, moment_of}
use Rattle.uug_line.proofs.LinkLemmas.{links_run}
use Rattle.uug_line.proofs.MoveLemmas.{StandsThere}
use Rattle.uug_line.proofs.SpeakingLemmas.{spoken_after}
use Rattle.uug_line.specs.Speaking.{HasSpoken}
use Rattle.uug_line.proofs.StepLemmas.{packet_step_alike, step_alike}
use Rattle.uug_line.proofs.World.Steps.{IsNoPacket, count_player, talk_player}
use Rattle.uug_line.proofs.World.TalkLemmas.{seen_at}
use Rattle.uug_link.proofs.TwoLinksRuns.{within as links_unacked, windows}
use Rattle.uug_link.proofs.ArrivalLemmas.{place_is}

-- ---- a call

-- an end whose link and talk are so and that has written this down
abbrev moment_with : JournalState → State → DialogueState → Moment
moment_with log link talk = record {
  link = link;
  talk = talk;
  sent = log.sent;
  taken = log.taken;
  packets = log.packets;
  arrivals = log.arrivals;
  passed = log.passed;
}

counted_call : (log : JournalState) (line : List ℕ) (link : State) (talk : DialogueState) (x : EndEffect DialogueState) (y : EndEffect Count) →
    y ≡ counted_effect (done_all (moment_with log link talk) x) x →
    counted_end (after_call log line x) ≡ after_call log line y
counted_call log line link talk x y same = ap (λ (z : EndEffect Count). after_call log line z) (sym same)

most_within : (before unacked window : ℕ) → before ≤ window → unacked ≤ window → max before unacked ≤ window
most_within before unacked window h k = omega (arith, h, k)

-- a packet is found at a place, and its message taken or not
moment_found : (b : Bool) (message : List ℕ) (place : ℕ) (log : JournalState) (link : State) (talk : DialogueState) →
    found (moment_with log link talk) place (taken_if b message log.taken)
    ≡ moment_with (took b message (found_at place log)) link talk
moment_found true message place log link talk = refl
moment_found false message place log link talk = refl

most_found : (b : Bool) (message : List ℕ) (place : ℕ) (log : JournalState) → (took b message (found_at place log)).most ≡ log.most
most_found true message place log = refl
most_found false message place log = refl

passed_found : (b : Bool) (message : List ℕ) (place : ℕ) (log : JournalState) → HasPassed (took b message (found_at place log))
passed_found true message place log = sym (passed_behind log.arrivals place 0)
passed_found false message place log = sym (passed_behind log.arrivals place 0)

place_found : (p : PacketValue) (packets : List PacketValue) (passed place : ℕ) →
    place_of p packets passed ≡ Some place → IsPlace p packets passed place
place_found p packets passed place there =
    subst (λ (o : Option ℕ). MatchOption o ((i : ℕ) → passed ≤ i → slice_get packets i ≢ Some p)
    (λ i. IsPlace p packets passed i)) there (place_is p packets passed)

-- the ends after it, and the same told by numbers
pub record DoneSo (setup : SetupValue) (brought : AtBoth Belongings) (side : Side) (f e : LineEndState DialogueState) (c : LineEndState Count) :
    Type 0 where
  pub joined : EndsJoined setup brought side e f
  pub same : counted_end e ≡ c

module _ (setup : SetupValue) (brought : AtBoth Belongings) (sound : IsSoundSession setup brought) (side : Side) where
  -- it left no more unacknowledged than it may
  unacked_within : (m n : Moment) → Joined setup brought side m n → length m.link.unacked ≤ (at (other side) setup).own.window
  unacked_within m n j =
      (links_unacked (at side setup).own (at (other side) setup).own (record { near = link_end m; far = link_end n })
      (sound.window side) (sound.window (other side)) (links_run setup side m n j.links)).0

  -- on a link that is up the window is the one that the other end announced
  window_within : (m n : Moment) → Joined setup brought side m n → IsUp m.link → m.link.window ≤ WINDOW_MAX
  window_within m n j is =
      let same = (windows (at side setup).own (at (other side) setup).own (record { near = link_end m; far = link_end n })
      (sound.window side) (sound.window (other side)) (links_run setup side m n j.links)).0
      (subst KnowsWindow (sym is) tt) in
      omega (arith, same, (sound.window (other side)).1)

  call_done : (e f : LineEndState DialogueState) (log : JournalState) (x : EndEffect DialogueState) (y : EndEffect Count) → EndsJoined setup brought side e f →
      log.most ≡ e.log.most → HasPassed log →
      ((IsUp x.state.link → x.state.link.window ≤ WINDOW_MAX) → HasSpoken (end_keeper side (party setup brought side).holdings) x.state) →
      DoesAlike (λ m. Joined setup brought side m (moment_of f)) (first_link side (at side setup).own)
      (moment_with log e.state.link e.state.keeper) x y →
      DoneSo setup brought side f (after_call log e.line x) (after_call log e.line y)
  call_done e f log x y joined most has_passed spoken alike = record {
    joined = record {
      joined = alike.holds;
      near_hails = alike.hails;
      far_hails = joined.far_hails;
      near_most = most_within log.most (length x.state.link.unacked) (at (other side) setup).own.window
          (subst (λ (n : ℕ). n ≤ (at (other side) setup).own.window) (sym most) joined.near_most)
          (unacked_within (done_all (moment_with log e.state.link e.state.keeper) x) (moment_of f) alike.holds);
      far_most = joined.far_most;
      near_passed = has_passed;
      far_passed = joined.far_passed;
      near_spoken = spoken (window_within (done_all (moment_with log e.state.link e.state.keeper) x) (moment_of f) alike.holds);
      far_spoken = joined.far_spoken;
    };
    same = counted_call log e.line e.state.link e.state.keeper x y alike.same;
  }

  -- ---- every event but a packet

  pub does_joined : (e f : LineEndState DialogueState) (event : EndEvent) → IsNoPacket event → EndsJoined setup brought side e f →
      DoneSo setup brought side f (does (talk_player setup brought side) event e)
      (does (count_player setup brought side) event (counted_end e))
  does_joined e f event none joined =
      call_done e f e.log (end_step (end_keeper side (party setup brought side).holdings) (identity setup side) event e.state)
      (end_step (count_keeper (seen_at setup brought side)) (identity setup side) event (counted_end e).state) joined refl joined.near_passed
      (λ within. spoken_after (end_keeper side (party setup brought side).holdings) (identity setup side) event e.state within joined.near_spoken)
      (step_alike side (party setup brought side).holdings (seen_at setup brought side)
      (λ m. Joined setup brought side m (moment_of f)) (StandsThere (moment_of f))
      (is_invariant setup brought sound side (moment_of f)) (at side setup).own (at side setup).name
      (at (other side) setup).name e.state.number (moment_of e) e.state.stage event none joined.joined joined.near_hails)

  -- ---- a packet of the other end

  packet_done : (e f : LineEndState DialogueState) (p : PacketValue) (place : ℕ) (x : EndEffect DialogueState) (y : EndEffect Count) →
      EndsJoined setup brought side e f → x.took ≡ y.took →
      ((IsUp x.state.link → x.state.link.window ≤ WINDOW_MAX) → HasSpoken (end_keeper side (party setup brought side).holdings) x.state) →
      DoesAlike (λ m. Joined setup brought side m (moment_of f)) (first_link side (at side setup).own)
      (found (moment_of e) place (taken_if x.took (message_of p) e.log.taken)) x y →
      DoneSo setup brought side f (after_call (took x.took (message_of p) (found_at place e.log)) e.line x)
      (after_call (took y.took (message_of p) (found_at place e.log)) e.line y)
  packet_done e f p place x y joined tooks spoken alike =
      let taken_so : Bool → JournalState = λ b. took b (message_of p) (found_at place e.log) in
      let log = taken_so x.took in
      subst (λ (b : Bool). DoneSo setup brought side f (after_call log e.line x) (after_call (taken_so b) e.line y)) tooks
      (call_done e f log x y joined (most_found x.took (message_of p) place e.log)
      (passed_found x.took (message_of p) place e.log) spoken
      (subst (λ (m : Moment). DoesAlike (λ n. Joined setup brought side n (moment_of f))
      (first_link side (at side setup).own) m x y)
      (moment_found x.took (message_of p) place e.log e.state.link e.state.keeper) alike))

  pub packet_joined : (e f : LineEndState DialogueState) (p : PacketValue) (place : ℕ) → e.state.stage ≡ linked →
      place_of p f.log.packets e.log.passed ≡ Some place →
      EndsJoined setup brought side e f →
      DoneSo setup brought side f (packet_taken_up (talk_player setup brought side) p place e)
      (packet_taken_up (count_player setup brought side) p place (counted_end e))
  packet_joined e f p place on_link found_there joined =
      let event = packet_found_whole false p in
      let x = end_step (end_keeper side (party setup brought side).holdings) (identity setup side) event e.state in
      let y = end_step (count_keeper (seen_at setup brought side)) (identity setup side) event (counted_end e).state in
      let alike = packet_step_alike side (party setup brought side).holdings (seen_at setup brought side)
      (λ m. Joined setup brought side m (moment_of f)) (StandsThere (moment_of f))
      (is_invariant setup brought sound side (moment_of f)) (at side setup).own (at side setup).name
      (at (other side) setup).name e.state.number (moment_of e) p place e.state.stage on_link
      (place_found p f.log.packets e.log.passed place found_there) joined.joined in
      packet_done e f p place x y joined (sym (ap (λ (z : EndEffect Count). z.took) alike.same))
      (λ within. spoken_after (end_keeper side (party setup brought side).holdings) (identity setup side) event e.state within joined.near_spoken)
      alike
