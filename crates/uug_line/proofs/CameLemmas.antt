-- What comes to the ends of a line is bytes.
use Rattle.std.proofs.Common.{ℕ, zero, suc, false, List, [], ◌∷◌, ◌++◌, length, take, drop, bit_xor, Option, Some, None, All, sym, subst}
use Rattle.std.proofs.lemmas.List.Elements.{All-nil, All-cons, All-head, All-tail, All-append, All-take, All-drop}
use Rattle.std.proofs.lemmas.Nat.{xor_of_8}
use Rattle.uug_conversation.specs.Turns.{other}
use Rattle.uug_link.specs.Arrivals.{place_of}
use Rattle.uug_packet.specs.Bytes.{AreBytes}
use Rattle.uug_packet.specs.Packet.{PacketValue}
use Rattle.uug_session.specs.Arriving.{Arrival, Buffered, all_taken, holds, stopped, takes_if, takes_piece, takes_up, takes_up_to}
use Rattle.uug_session.specs.EndStep.{EndEffect, EndEvent, begins_session, end_step, line_lost, message_of, packet_found_whole, time_ran_out}
use Rattle.uug_session.specs.Finding.{Finding, finding, finds, finds_nothing, finds_packet}
use Rattle.uug_line.specs.declared.event.Event.{Event}
use Rattle.uug_line.specs.declared.event.Event.TheVariants.{Pass, Drop, Flip, Insert, Timeout, HangUp, Call}
use Rattle.uug_conversation.specs.declared.side.Side.{Side}
use Rattle.uug_conversation.specs.declared.side.Side.TheVariants.{Caller, Called}
use Rattle.uug_line.specs.declared.verdict.LineVerdict.{LineVerdict}
use Rattle.uug_line.specs.declared.verdict.LineVerdict.TheVariants.{Clean, Fooled}
use Rattle.uug_line.specs.Belongings.{Belongings, SetupValue, identity}
use Rattle.uug_line.specs.Delivered.{came_in, comes, comes_with, nothing_came, while_clean}
use Rattle.uug_line.specs.LineEndState.{LineEndState, JournalState, Participant, after_call, called_with, changed_line, does, found_at, nothing_done, packets_in, took}
use Rattle.uug_line.specs.OfBytes.{AreOfBytes, IsOfBytes}
use Rattle.uug_line.specs.Told.{EndReportValue}
use Rattle.uug_line.specs.Run.{Run, after_event, after_hearing, calls, calls_again, end_at, first_end, first_run, flipped, goes_through, hears_next, participant, run_of, session_begins, unless_fooled, with_end_at, with_line_to}
use Rattle.uug_line.specs.RunKeeper.{RunKeeper}
use Rattle.uug_conversation.specs.Sides.{AtBoth, at}
use Rattle.uug_line.specs.Taking.{line_taker, packet_taken_up, takes_sent}
use Rattle.uug_line.proofs.SideLemmas.{with_here}
use Rattle.uug_line.proofs.ByteLemmas.{AllBytes, IsByte, are_bytes}
use Rattle.uug_line.proofs.CarriedLemmas.{all_behind, all_in_front}
use Rattle.uug_line.proofs.EmittedByteLemmas.{IsRight, SaysBytes, emitted_bytes, first_says, step_says}
use Rattle.uug_line.proofs.FoundLemmas.{took_packets}

-- Where all packets of an end are right, what stands on its line is bytes, and what came from there to the other end.
pub record GivesBytes (packets : List PacketValue) (line came : List ℕ) : Type 0 where
  pub line_is : All IsRight packets → AllBytes line
  pub came_is : All IsRight packets → AllBytes came

abbrev pub Gives : {C : Type 0} → LineEndState C → (came : List ℕ) → Type 0
Gives e came = GivesBytes e.log.packets e.line came

-- ---- what an end does

call_gives : {C : Type 0} (log : JournalState) (line came : List ℕ) (effect : EndEffect C) → SaysBytes effect.emitted
    → GivesBytes log.packets line came → Gives (after_call log line effect) came
call_gives log line came effect says gives = record {
  line_is = λ right. All-append IsByte line _ (gives.line_is (all_in_front IsRight log.packets (packets_in effect.emitted) right))
      (emitted_bytes effect.emitted says (all_behind IsRight log.packets (packets_in effect.emitted) right));
  came_is = λ right. gives.came_is (all_in_front IsRight log.packets (packets_in effect.emitted) right);
}

module _ {C : Type 0} (p : Participant C) (me : AllBytes p.identity.me) where
  does_gives : (event : EndEvent) (e : LineEndState C) (came : List ℕ) → Gives e came → Gives (does p event e) came
  does_gives event e came gives =
      call_gives e.log e.line came (end_step p.keeper p.identity event e.state)
      (step_says p.keeper p.identity e.state.stage event e.state me) gives

  packet_gives : (q : PacketValue) (place : ℕ) (e : LineEndState C) (came : List ℕ) → Gives e came
      → Gives (packet_taken_up p q place e) came
  packet_gives q place e came gives =
      let event : EndEvent = packet_found_whole false q in
      let effect : EndEffect C = end_step p.keeper p.identity event e.state in
      call_gives (took effect.took (message_of q) (found_at place e.log)) e.line came effect
      (step_says p.keeper p.identity e.state.stage event e.state me)
      (subst (λ ps. GivesBytes ps e.line came) (sym (took_packets effect.took (message_of q) (found_at place e.log)))
      (record { line_is = gives.line_is; came_is = gives.came_is }))

  abbrev CameGives : (came : List ℕ) → Arrival (LineEndState C) → Type 0
  CameGives came (all_taken h) = Gives h.end came
  CameGives came (stopped h) = Gives h.end came

  module _ (came : List ℕ) (others : List PacketValue) where
    abbrev MoreGives : (Buffered (LineEndState C) → Arrival (LineEndState C)) → Type 0
    MoreGives more = (h : Buffered (LineEndState C)) → Gives h.end came → CameGives came (more h)

    sent_gives : (more : Buffered (LineEndState C) → Arrival (LineEndState C)) (place : Option ℕ) (q : PacketValue) (from behind : List ℕ)
        (e : LineEndState C) → MoreGives more → Gives e came
        → CameGives came (takes_if more (line_taker p others) (takes_sent p q place e) from behind e)
    sent_gives more None q from behind e then_so gives = gives
    sent_gives more (Some place) q from behind e then_so gives =
        then_so (holds (line_taker p others) behind (packet_taken_up p q place e)) (packet_gives q place e came gives)

    taken_gives : (more : Buffered (LineEndState C) → Arrival (LineEndState C)) (x : Finding) (e : LineEndState C) → MoreGives more → Gives e came
        → CameGives came (takes_up more (line_taker p others) x e)
    taken_gives more (finds_nothing rest) e then_so gives = gives
    taken_gives more (finds event behind) e then_so gives =
        then_so (holds (line_taker p others) behind (does p event e)) (does_gives event e came gives)
    taken_gives more (finds_packet q from behind) e then_so gives =
        sent_gives more (place_of q others e.log.passed) q from behind e then_so gives

    takes_gives : (n : ℕ) (h : Buffered (LineEndState C)) → Gives h.end came → CameGives came (takes_up_to n (line_taker p others) h)
    takes_gives zero h gives = gives
    takes_gives (suc n) h gives =
        taken_gives (takes_up_to n (line_taker p others)) (finding h.end.state.stage h.held) h.end (takes_gives n) gives

    piece_gives : (piece : List ℕ) (h : Buffered (LineEndState C)) → Gives h.end came
        → CameGives came (takes_piece (line_taker p others) piece h)
    piece_gives piece h gives =
        takes_gives (suc (length (holds (line_taker p others) (h.held ++ piece) h.end).held))
        (holds (line_taker p others) (h.held ++ piece) h.end) gives

-- ---- what an event does

-- both ends of a run
abbrev pub RunGives : {C : Type 0} → Run C → (came : AtBoth (List ℕ)) → Type 0
RunGives run came = (side : Side) → Gives (end_at side run).end (at (other side) came)

with_gives : {C : Type 0} (side : Side) (h : Buffered (LineEndState C)) (run : Run C) (came : AtBoth (List ℕ))
    → Gives h.end (at (other side) came) → RunGives run came → RunGives (with_end_at side h run) came
with_gives {C} side h run came gives all =
    with_here (λ (s : Side) (x far : Buffered (LineEndState C)). Gives x.end (at (other s) came)) side h run.ends gives (all (other side))

-- the bytes from the side become others that are bytes, too
line_gives : {C : Type 0} (side : Side) (change : List ℕ → List ℕ) (run : Run C) (came : AtBoth (List ℕ))
    → ((bytes : List ℕ) → AllBytes bytes → AllBytes (change bytes)) → RunGives run came
    → RunGives (with_end_at side (changed_line change (end_at side run)) run) came
line_gives side change run came stays all =
    with_gives side (changed_line change (end_at side run)) run came (record {
      line_is = λ right. stays (end_at side run).end.line ((all side).line_is right);
      came_is = (all side).came_is;
    }) all

-- the next bytes came
passed_gives : {C : Type 0} (side : Side) (n : ℕ) (run : Run C) (came : AtBoth (List ℕ)) → RunGives run came
    → RunGives run (comes (Pass side n) run came)
passed_gives Caller n run came all Caller = all Caller
passed_gives Caller n run came all Called = record {
  line_is = (all Called).line_is;
  came_is = λ right. All-append IsByte came.at_caller (take n (end_at Called run).end.line) ((all Called).came_is right)
      (All-take IsByte n (end_at Called run).end.line ((all Called).line_is right));
}
passed_gives Called n run came all Called = all Called
passed_gives Called n run came all Caller = record {
  line_is = (all Caller).line_is;
  came_is = λ right. All-append IsByte came.at_called (take n (end_at Caller run).end.line) ((all Caller).came_is right)
      (All-take IsByte n (end_at Caller run).end.line ((all Caller).line_is right));
}

flip_stays : (mask : ℕ) → IsByte mask → (bytes : List ℕ) → AllBytes bytes → AllBytes (flipped mask bytes)
flip_stays mask is [] all = All-nil IsByte
flip_stays mask is (b ∷ bytes) all =
    All-cons IsByte (bit_xor b mask) bytes (xor_of_8 b mask (All-head IsByte b bytes all) is) (All-tail IsByte b bytes all)

module _ {C : Type 0} (k : RunKeeper C) (setup : SetupValue) (names : (side : Side) → AllBytes (at side setup).name) where
  heard_gives : (number : ℕ) (side : Side) (x : Arrival (LineEndState C)) (run : Run C) (came : AtBoth (List ℕ))
      → CameGives (participant k setup run side) (names side) (at (other side) came) x → RunGives run came
      → RunGives (after_hearing number side x run) came
  heard_gives number side (all_taken h) run came gives all = with_gives side h run came gives all
  heard_gives number side (stopped h) run came gives all = λ at_side. with_gives side h run came gives all at_side

  hears_gives : (side : Side) (n : ℕ) (run : Run C) (came : AtBoth (List ℕ)) → RunGives run came
      → CameGives (participant k setup run side) (names side) (at (other side) came) (hears_next k setup side n run)
  hears_gives side n run came all =
      piece_gives (participant k setup run side) (names side) (at (other side) came) (end_at (other side) run).end.log.packets
      (take n (end_at (other side) run).end.line) (end_at side run) (all side)

  called_gives : (side : Side) (event : EndEvent) (run : Run C) (came : AtBoth (List ℕ)) → RunGives run came
      → RunGives (calls k setup side event run) came
  called_gives side event run came all =
      with_gives side (called_with (participant k setup run side) event (end_at side run)) run came
      (does_gives (participant k setup run side) (names side) event (end_at side run).end (at (other side) came) (all side)) all

  began_gives : (brought : AtBoth Belongings) (side : Side) → Gives (first_end k setup brought side).end []
  began_gives brought side =
      call_gives nothing_done [] [] (begins_session (identity setup side) (at side setup).own (at side brought).number (k.first (at side brought)))
      (first_says side (at side setup).name (names side))
      (record { line_is = λ right. All-nil IsByte; came_is = λ right. All-nil IsByte })

  begins_gives : (past : List (AtBoth EndReportValue)) (brought : AtBoth Belongings)
      → RunGives (session_begins k setup past brought) nothing_came
  begins_gives past brought Caller = began_gives brought Caller
  begins_gives past brought Called = began_gives brought Called

  pass_gives : (number : ℕ) (side : Side) (n : ℕ) (run : Run C) (came : AtBoth (List ℕ)) → RunGives run came
      → RunGives (after_event k setup number (Pass side n) run) (comes (Pass side n) run came)
  pass_gives number side n run came all =
      let then : AtBoth (List ℕ) = comes (Pass side n) run came in
      let passed : RunGives run then = passed_gives side n run came all in
      heard_gives number side (hears_next k setup side n run) (with_line_to side (drop n) run) then
      (hears_gives side n run then passed)
      (line_gives (other side) (drop n) run then (λ bytes is. All-drop IsByte n bytes is) passed)

  event_gives : (number : ℕ) (event : Event) (run : Run C) (came : AtBoth (List ℕ)) → IsOfBytes event → RunGives run came
      → RunGives (after_event k setup number event run) (comes event run came)
  event_gives number (Pass side n) run came is all = pass_gives number side n run came all
  event_gives number (Drop side n) run came is all = line_gives (other side) (drop n) run came (λ bytes bs. All-drop IsByte n bytes bs) all
  event_gives number (Flip side mask) run came is all = line_gives (other side) (flipped mask) run came (flip_stays mask is) all
  event_gives number (Insert side byte) run came is all =
      line_gives (other side) (λ line. byte ∷ line) run came (λ bytes bs. All-cons IsByte byte bytes is bs) all
  event_gives number (Timeout side) run came is all = called_gives side time_ran_out run came all
  event_gives number (HangUp side) run came is all = called_gives side line_lost run came all
  event_gives number Call run came is all =
      let again : Run C = calls_again k setup run in begins_gives again.past again.brought

  unless_gives : (verdict : LineVerdict) (more : Run C → Run C) (then : AtBoth (List ℕ) → AtBoth (List ℕ)) (run : Run C)
      (came : AtBoth (List ℕ)) → RunGives (more run) (then came) → RunGives run came
      → RunGives (unless_fooled verdict more run) (while_clean verdict then came)
  unless_gives Clean more then run came done all = done
  unless_gives (Fooled event side) more then run came done all = all

  goes_gives : (number : ℕ) (events : List Event) (run : Run C) (came : AtBoth (List ℕ)) → AreOfBytes events → RunGives run came
      → RunGives (goes_through k setup number events run) (comes_with k setup number events run came)
  goes_gives number [] run came are all = all
  goes_gives number (event ∷ events) run came are all =
      unless_gives run.verdict
      (λ before. goes_through k setup (suc number) events (after_event k setup number event before))
      (λ so_far. comes_with k setup (suc number) events (after_event k setup number event run) (comes event run so_far)) run came
      (goes_gives (suc number) events (after_event k setup number event run) (comes event run came)
      (All-tail IsOfBytes event events are)
      (event_gives number event run came (All-head IsOfBytes event events are) all))
      all

  pub run_gives : (events : List Event) → AreOfBytes events → RunGives (run_of k setup events) (came_in k setup events)
  run_gives events are =
      let begun : Run C = first_run k setup in
      goes_gives 0 events begun nothing_came are (begins_gives begun.past begun.brought)

  -- where all packets of the other end are right, what comes is bytes
  pub comes_bytes : (events : List Event) (side : Side) → AreOfBytes events
      → All IsRight (end_at (other side) (run_of k setup events)).end.log.packets → AreBytes (at side (came_in k setup events))
  comes_bytes events Caller are right =
      are_bytes (came_in k setup events).at_caller ((run_gives events are Called).came_is right)
  comes_bytes events Called are right =
      are_bytes (came_in k setup events).at_called ((run_gives events are Caller).came_is right)
