-- What the verdict of a run says of what its ends have found.
use Rattle.std.proofs.Common.{◌≡◌, ℕ, suc, ◌+◌, Bool, true, false, nat_lt, if◌then◌else◌, List, [], ◌∷◌, ◌++◌, take, drop, slice_get, Some, All, refl, sym, ap, subst, ◌∙◌, arith, Option}
use Rattle.std.proofs.lemmas.List.Elements.{All-nil, All-push}
use Rattle.std.specs.Bool.{⊤}
use Rattle.uug_conversation.specs.Turns.{other}
use Rattle.uug_link.specs.Arrivals.{place_of}
use Rattle.uug_link.specs.declared.limits.TheConstants.{TIMEOUTS_MAX}
use Rattle.uug_link.specs.State.{State}
use Rattle.uug_session.specs.declared.end.End.TheVariants as ends
use Rattle.uug_session.specs.declared.greeting.Greeted.TheVariants.{GoesOn}
use Rattle.uug_session.specs.declared.greeting.Greeting.{Greeting}
use Rattle.uug_session.specs.Arriving.{Buffered, held_in, Arrival, all_taken, stopped}
use Rattle.uug_session.specs.EndStep.{EndEvent, text_found, long_text_found, packet_found_whole, broken_found, time_ran_out, line_lost, behind_greeting, stage_step, EndState, Identity, Stage, hailing, linked, ended, end_step, linked_step}
use Rattle.uug_packet.specs.Packet.{PacketValue}
use Rattle.uug_session.specs.Finding.{finds_nothing, finds_packet, finding}
use Rattle.uug_session.specs.Greeting.{fails}
use Rattle.uug_conversation.specs.Keeper.{Keeper}
use Rattle.uug_line.specs.declared.event.Event.{Event}
use Rattle.uug_line.specs.declared.event.Event.TheVariants.{Pass, Drop, Flip, Insert, Timeout, HangUp, Call}
use Rattle.uug_conversation.specs.declared.side.Side.{Side}
use Rattle.uug_conversation.specs.declared.side.Side.TheVariants.{Caller, Called}
use Rattle.uug_line.specs.declared.verdict.LineVerdict.{LineVerdict}
use Rattle.uug_line.specs.declared.verdict.LineVerdict.TheVariants.{Clean, Fooled}
use Rattle.uug_line.specs.Belongings.{Belongings, SetupValue, renewed}
use Rattle.uug_line.specs.Fooled.{ArrivalsArePlaces, FindsNothingMore, FindsUnsent, StoppedAt, present}
use Rattle.uug_line.specs.LineEndState.{LineEndState, Participant, does, called_with, changed_line}
use Rattle.uug_line.specs.Report.{report_of_end}
use Rattle.uug_line.specs.Run.{Run, end_at, participant, has_now, first_end, first_run, session_begins, flipped, with_end_at, with_line_to, hears_next, after_hearing, calls, hung_up, calls_again, after_event, unless_fooled, goes_through, run_of}
use Rattle.uug_line.specs.RunKeeper.{RunKeeper}
use Rattle.uug_conversation.specs.Sides.{AtBoth, at, at_each}
use Rattle.uug_line.specs.World.{report_of}
use Rattle.uug_line.specs.Told.{EndReportValue}
use Rattle.uug_line.proofs.FoundLemmas.{BothFound, IsUnsent, CameSo, does_found, came_piece}
use Rattle.uug_line.proofs.PlaceLemmas.{none_left}
use Rattle.uug_line.proofs.SideLemmas.{here_so, other_stays, with_both}
use Rattle.uug_session.proofs.StepKeeps.{linked_leads}

-- ---- a call of an end that finds nothing more

-- an event that uses no bytes leaves an end hailing, for the same text, or linked, or ends it
abbrev pub StaysOrEnds : Stage → Stage → Type 0
StaysOrEnds (ended so) (ended how) = so ≡ how
StaysOrEnds s (ended how) = ⊤
StaysOrEnds (hailing g) (hailing h) = g.awaited ≡ h.awaited
StaysOrEnds linked linked = ⊤
StaysOrEnds _ _ = ⊥

-- on the link no event leads back to the greeting
pub linked_stays : {C : Type 0} (k : Keeper C) (id : Identity) (event : EndEvent) (e : EndState C) → e.stage ≡ linked →
    StaysOrEnds linked (linked_step k id event e).state.stage
linked_stays k id event e is =
    linked_leads k id e (λ x. StaysOrEnds linked x.state.stage) (λ took x c. tt) (λ parted how x c took none. tt) tt tt
    (subst (StaysOrEnds linked) (sym is) tt) event

greeting_stays : {C : Type 0} (number : Option ℕ) (id : Identity) (g : Greeting) (goes_on : Bool) (link : State) (c : C) →
    StaysOrEnds (hailing g) (behind_greeting number id (if goes_on
    then record { says = []; greeted = GoesOn (record { awaited = g.awaited; timeouts = g.timeouts + 1 }); rises = false }
    else fails [] ends.GaveUp) link c).state.stage
greeting_stays number id g true link c = refl
greeting_stays number id g false link c = tt

abbrev pub UsesNoBytes : EndEvent → Type 0
UsesNoBytes time_ran_out = ⊤
UsesNoBytes line_lost = ⊤
UsesNoBytes _ = ⊥

pub call_stays : {C : Type 0} (k : Keeper C) (id : Identity) (s : Stage) (event : EndEvent) (e : EndState C) → e.stage ≡ s →
    UsesNoBytes event → StaysOrEnds s (stage_step k id s event e).state.stage
call_stays k id (hailing g) time_ran_out e is uses = greeting_stays e.number id g (nat_lt (g.timeouts + 1) TIMEOUTS_MAX) e.link e.keeper
call_stays k id (hailing g) line_lost e is uses = tt
call_stays k id (hailing g) (text_found text) e is uses = absurd uses
call_stays k id (hailing g) long_text_found e is uses = absurd uses
call_stays k id (hailing g) (packet_found_whole failed p) e is uses = absurd uses
call_stays k id (hailing g) broken_found e is uses = absurd uses
call_stays k id linked event e is uses = linked_stays k id event e is
call_stays k id (ended how) event e is uses = subst (StaysOrEnds (ended how)) (sym is) refl

nothing_then : (s t : Stage) (bytes : List ℕ) → StaysOrEnds s t → finding s bytes ≡ finds_nothing bytes →
    finding t (held_in t bytes) ≡ finds_nothing (held_in t bytes)
nothing_then s (ended how) bytes stays none = refl
nothing_then (hailing g) (hailing h) bytes stays none = none
nothing_then linked linked bytes stays none = none
nothing_then (hailing g) linked bytes stays none = absurd stays
nothing_then linked (hailing h) bytes stays none = absurd stays
nothing_then (ended how) (hailing h) bytes stays none = absurd stays
nothing_then (ended how) linked bytes stays none = absurd stays

call_finds_nothing : {C : Type 0} (p : Participant C) (event : EndEvent) (h : Buffered (LineEndState C)) → UsesNoBytes event →
    FindsNothingMore h → FindsNothingMore (called_with p event h)
call_finds_nothing p event h uses none =
    let s = h.end.state.stage in
    nothing_then s (end_step p.keeper p.identity event h.end.state).state.stage h.held
    (call_stays p.keeper p.identity s event h.end.state refl uses) none

-- ---- a run

-- all sessions that are over, and what the ends of the present one have found
pub record FoundSo {C : Type 0} (run : Run C) : Type 0 where
  pub both : BothFound run.ends.at_caller.end run.ends.at_called.end
  pub past : All ArrivalsArePlaces run.past

-- by the verdict nothing more is found at either end, or at one of them a packet that was not sent
abbrev pub JudgedBy : {C : Type 0} → LineVerdict → Run C → Type 0
JudgedBy Clean run = (side : Side) → FindsNothingMore (end_at side run)
JudgedBy (Fooled number side) run =
    IsUnsent (end_at side run) (end_at (other side) run).end × FindsNothingMore (end_at (other side) run)

pub record IsJudged {C : Type 0} (run : Run C) : Type 0 where
  pub found : FoundSo run
  pub judged : JudgedBy run.verdict run

turned : {C : Type 0} (e f : LineEndState C) → BothFound e f → BothFound f e
turned e f both = record { near = both.far; far = both.near }

-- the bytes on a line don't matter
near_line : {C : Type 0} (change : List ℕ → List ℕ) (h : Buffered (LineEndState C)) (f : LineEndState C) → BothFound h.end f →
    BothFound (changed_line change h).end f
near_line change h f both = record {
  near = record { packets = both.near.packets; places = both.near.places; passed = both.near.passed };
  far = record { packets = both.far.packets; places = both.far.places; passed = both.far.passed };
}

far_line : {C : Type 0} (change : List ℕ → List ℕ) (e : LineEndState C) (h : Buffered (LineEndState C)) → BothFound e h.end →
    BothFound e (changed_line change h).end
far_line change e h both = turned (changed_line change h).end e (near_line change h e (turned e h.end both))

-- in a session the arrivals are places
session_found : {C : Type 0} (e f : LineEndState C) → BothFound e f →
    ArrivalsArePlaces (record { at_caller = report_of_end e; at_called = report_of_end f })
session_found e f both Caller = (both.near.packets, both.near.places)
session_found e f both Called = (both.far.packets, both.far.places)

module _ {C : Type 0} (k : RunKeeper C) (setup : SetupValue) where
  -- both ends, told in one
  judged_ends : (past : List (AtBoth EndReportValue)) (brought : AtBoth Belongings) (x y : Buffered (LineEndState C)) →
      All ArrivalsArePlaces past → BothFound x.end y.end → FindsNothingMore x → FindsNothingMore y →
      IsJudged (record { past = past; brought = brought; ends = record { at_caller = x; at_called = y }; verdict = Clean })
  judged_ends past brought x y were both at_x at_y =
      record { found = record { both = both; past = were }; judged = each }
    where
      each : (side : Side) → FindsNothingMore (at side (record { at_caller = x; at_called = y }))
      each Caller = at_x
      each Called = at_y

  begins_judged : (past : List (AtBoth EndReportValue)) (brought : AtBoth Belongings) → All ArrivalsArePlaces past →
      IsJudged (session_begins k setup past brought)
  begins_judged past brought were =
      judged_ends past brought (first_end k setup brought Caller) (first_end k setup brought Called) were both refl refl
    where
      both : BothFound (first_end k setup brought Caller).end (first_end k setup brought Called).end
      both = record {
        near = record { packets = []; places = tt; passed = refl };
        far = record { packets = []; places = tt; passed = refl };
      }

  -- ---- what happens to a run that is not fooled

  nothing_at : (run : Run C) → run.verdict ≡ Clean → IsJudged run → (side : Side) → FindsNothingMore (end_at side run)
  nothing_at run clean j = subst (λ v. JudgedBy v run) clean j.judged

  -- what the end on the side and the other one have found
  both_at : (run : Run C) → FoundSo run → (side : Side) → BothFound (end_at side run).end (end_at (other side) run).end
  both_at run found Caller = found.both
  both_at run found Called = turned run.ends.at_caller.end run.ends.at_called.end found.both

  -- its ends become these
  abbrev with_ends : Side → (x y : Buffered (LineEndState C)) → Run C → Run C
  with_ends side x y run = with_end_at side x (with_end_at (other side) y run)

  found_so : (side : Side) (run : Run C) (x y : Buffered (LineEndState C)) → All ArrivalsArePlaces run.past → BothFound x.end y.end →
      FoundSo (with_ends side x y run)
  found_so Caller run x y past both = record { both = both; past = past }
  found_so Called run x y past both = record { both = turned x.end y.end both; past = past }

  become : (side : Side) (run : Run C) (x y : Buffered (LineEndState C)) → run.verdict ≡ Clean → IsJudged run → BothFound x.end y.end →
      FindsNothingMore x → FindsNothingMore y → IsJudged (with_ends side x y run)
  become side run x y clean j both at_x at_y = record {
    found = found_so side run x y j.found.past both;
    judged = subst (λ v. JudgedBy v (with_ends side x y run)) (sym clean)
        (with_both (λ (s : Side) (h far : Buffered (LineEndState C)). FindsNothingMore h) side x y run.ends at_x at_y);
  }

  -- one of them does
  one_becomes : (side : Side) (run : Run C) (x : Buffered (LineEndState C)) → run.verdict ≡ Clean → IsJudged run →
      BothFound x.end (end_at (other side) run).end → FindsNothingMore x → IsJudged (with_end_at side x run)
  one_becomes side run x clean j both at_x =
      subst (λ (ends : AtBoth (Buffered (LineEndState C))). IsJudged (record run { ends = ends })) (other_stays side x run.ends)
      (become side run x (end_at (other side) run) clean j both at_x (nothing_at run clean j (other side)))

  line_judged : (side : Side) (change : List ℕ → List ℕ) (run : Run C) → run.verdict ≡ Clean → IsJudged run →
      IsJudged (with_end_at side (changed_line change (end_at side run)) run)
  line_judged side change run clean j =
      let h = end_at side run in
      one_becomes side run (changed_line change h) clean j (near_line change h (end_at (other side) run).end (both_at run j.found side))
      (nothing_at run clean j side)

  call_judged : (side : Side) (event : EndEvent) (run : Run C) → UsesNoBytes event → run.verdict ≡ Clean → IsJudged run →
      IsJudged (calls k setup side event run)
  call_judged side event run uses clean j =
      let p = participant k setup run side in
      let h = end_at side run in
      one_becomes side run (called_with p event h) clean j (does_found p event h.end (end_at (other side) run).end (both_at run j.found side))
      (call_finds_nothing p event h uses (nothing_at run clean j side))

  -- a piece has come
  came_judged : (number : ℕ) (side : Side) (n : ℕ) (run : Run C) → run.verdict ≡ Clean → IsJudged run → (came : Arrival (LineEndState C)) →
      CameSo (participant k setup run side) (end_at (other side) run).end came →
      IsJudged (after_hearing number side came (with_line_to side (drop n) run))
  came_judged number side n run clean j (all_taken h) so =
      let there = end_at (other side) run in
      become side run h (changed_line (drop n) there) clean j (far_line (drop n) h.end there so.0) so.1 (nothing_at run clean j (other side))
  came_judged number side n run clean j (stopped h) so =
      let there = end_at (other side) run in
      let found = found_so side run h (changed_line (drop n) there) j.found.past (far_line (drop n) h.end there so.0) in
      record {
        found = record { both = found.both; past = found.past };
        judged = here_so (λ (x y : Buffered (LineEndState C)). IsUnsent x y.end × FindsNothingMore y) side h (changed_line (drop n) there) run.ends (
          record { packet = so.1.packet; behind = so.1.behind; next = so.1.next; no_place = so.1.no_place },
          nothing_at run clean j (other side),
        );
      }

  pass_judged : (number : ℕ) (side : Side) (n : ℕ) (run : Run C) → run.verdict ≡ Clean → IsJudged run →
      IsJudged (after_event k setup number (Pass side n) run)
  pass_judged number side n run clean j =
      let there = (end_at (other side) run).end in
      came_judged number side n run clean j (hears_next k setup side n run)
      (came_piece (participant k setup run side) there (take n there.line) (end_at side run) (both_at run j.found side))

  again_judged : (run : Run C) → IsJudged run → IsJudged (calls_again k setup run)
  again_judged run j =
      let e = run.ends.at_caller.end in
      let f = run.ends.at_called.end in
      let e' = does (participant k setup run Caller) line_lost e in
      let f' = does (participant k setup run Called) line_lost f in
      let first = does_found (participant k setup run Caller) line_lost e f j.found.both in
      let both = turned f' e' (does_found (participant k setup run Called) line_lost f e' (turned e' f first)) in
      begins_judged (run.past ++ told ∷ []) (at_each (λ side. renewed (has_now k setup run side)))
      (All-push ArrivalsArePlaces run.past told j.found.past (session_found e' f' both))
    where
      told : AtBoth EndReportValue
      told = at_each (λ side. report_of_end (hung_up k setup run side).end)

  event_judged : (number : ℕ) (event : Event) (run : Run C) → run.verdict ≡ Clean → IsJudged run →
      IsJudged (after_event k setup number event run)
  event_judged number (Pass side n) run clean j = pass_judged number side n run clean j
  event_judged number (Drop side n) run clean j = line_judged (other side) (drop n) run clean j
  event_judged number (Flip side mask) run clean j = line_judged (other side) (flipped mask) run clean j
  event_judged number (Insert side byte) run clean j = line_judged (other side) (λ line. byte ∷ line) run clean j
  event_judged number (Timeout side) run clean j = call_judged side time_ran_out run tt clean j
  event_judged number (HangUp side) run clean j = call_judged side line_lost run tt clean j
  event_judged number Call run clean j = again_judged run j

  -- ---- all events

  judged_unless : (verdict : LineVerdict) (more : Run C → Run C) (run : Run C) → run.verdict ≡ verdict → IsJudged run →
      (run.verdict ≡ Clean → IsJudged (more run)) → IsJudged (unless_fooled verdict more run)
  judged_unless Clean more run is j later = later is
  judged_unless (Fooled number side) more run is j later = j

  all_judged : (number : ℕ) (events : List Event) (run : Run C) → IsJudged run → IsJudged (goes_through k setup number events run)
  all_judged number [] run j = j
  all_judged number (event ∷ events) run j =
      judged_unless run.verdict (λ before. goes_through k setup (suc number) events (after_event k setup number event before)) run refl j
      (λ clean. all_judged (suc number) events (after_event k setup number event run) (event_judged number event run clean j))

  pub run_judged : (events : List Event) → IsJudged (run_of k setup events)
  run_judged events =
      all_judged 0 events (first_run k setup)
      (begins_judged [] (at_each (λ side. renewed (at side setup).belongings)) (All-nil ArrivalsArePlaces))

  -- ---- for readers

  pub arrivals_are_places : (events : List Event) → All ArrivalsArePlaces (report_of k setup (run_of k setup events)).sessions
  arrivals_are_places events =
      let run = run_of k setup events in
      let j = run_judged events in
      All-push ArrivalsArePlaces run.past (present run) j.found.past
      (session_found run.ends.at_caller.end run.ends.at_called.end j.found.both)

  pub nothing_left : (events : List Event) → (run_of k setup events).verdict ≡ Clean → (side : Side) →
      FindsNothingMore (end_at side (run_of k setup events))
  nothing_left events clean side = nothing_at (run_of k setup events) clean (run_judged events) side

  finds_unsent : (run : Run C) (side : Side) → BothFound run.ends.at_caller.end run.ends.at_called.end →
      IsUnsent (end_at side run) (end_at (other side) run).end → FindsUnsent run side
  finds_unsent run Caller both unsent = record {
    found = both.near.packets;
    are_found = both.near.places;
    packet = unsent.packet;
    behind = unsent.behind;
    next = unsent.next;
    not_sent = (none_left both.near.packets run.ends.at_called.end.log.packets run.ends.at_caller.end.log.arrivals
        unsent.packet both.near.places).0
        (ap (place_of unsent.packet run.ends.at_called.end.log.packets) (sym both.near.passed) ∙ unsent.no_place);
  }
  finds_unsent run Called both unsent = record {
    found = both.far.packets;
    are_found = both.far.places;
    packet = unsent.packet;
    behind = unsent.behind;
    next = unsent.next;
    not_sent = (none_left both.far.packets run.ends.at_caller.end.log.packets run.ends.at_called.end.log.arrivals
        unsent.packet both.far.places).0
        (ap (place_of unsent.packet run.ends.at_caller.end.log.packets) (sym both.far.passed) ∙ unsent.no_place);
  }

  pub unsent_when_fooled : (events : List Event) (number : ℕ) (side : Side) → (run_of k setup events).verdict ≡ Fooled number side →
      FindsUnsent (run_of k setup events) side
  unsent_when_fooled events number side is =
      let j = run_judged events in
      finds_unsent (run_of k setup events) side j.found.both (subst (λ v. JudgedBy v (run_of k setup events)) is j.judged).0

  -- nothing is found where a packet is
  both_found : (h : Buffered (LineEndState C)) (p : PacketValue) (behind : List ℕ) → FindsNothingMore h →
      finding h.end.state.stage h.held ≡ finds_packet p h.held behind → ⊥
  both_found h p behind none some =
      let e : finds_nothing h.held ≡ finds_packet p h.held behind = sym none ∙ some in cc

  same_side : (number : ℕ) (side s : Side) (run : Run C) → FindsUnsent run side →
      JudgedBy (Fooled number s) run → Fooled number s ≡ Fooled number side
  same_side number Caller Caller run unsent judged = refl
  same_side number Called Called run unsent judged = refl
  same_side number Caller Called run unsent judged =
      absurd (both_found run.ends.at_caller unsent.packet unsent.behind judged.1 unsent.next)
  same_side number Called Caller run unsent judged =
      absurd (both_found run.ends.at_called unsent.packet unsent.behind judged.1 unsent.next)

  fooled_so : (v : LineVerdict) (side : Side) (run : Run C) → FindsUnsent run side → JudgedBy v run →
      (number : ℕ) × (v ≡ Fooled number side)
  fooled_so Clean side run unsent judged =
      absurd (both_found (end_at side run) unsent.packet unsent.behind (judged side) unsent.next)
  fooled_so (Fooled number s) side run unsent judged = (number, same_side number side s run unsent judged)

  pub fooled_by_unsent : (events : List Event) (side : Side) → FindsUnsent (run_of k setup events) side →
      (number : ℕ) × ((run_of k setup events).verdict ≡ Fooled number side)
  fooled_by_unsent events side unsent =
      fooled_so (run_of k setup events).verdict side (run_of k setup events) unsent (run_judged events).judged

  -- ---- the event at which a run stops

  when_clean : (number : ℕ) (event : Event) (events : List Event) (run : Run C) → run.verdict ≡ Clean →
      goes_through k setup number (event ∷ events) run
      ≡ goes_through k setup (suc number) events (after_event k setup number event run)
  when_clean number event events run clean =
      ap (λ v. unless_fooled v (λ before. goes_through k setup (suc number) events (after_event k setup number event before)) run) clean

  when_fooled : (number at_number : ℕ) (side : Side) (events : List Event) (run : Run C) → run.verdict ≡ Fooled at_number side →
      goes_through k setup number events run ≡ run
  when_fooled number at_number side [] run fooled = refl
  when_fooled number at_number side (event ∷ events) run fooled =
      ap (λ v. unless_fooled v (λ before. goes_through k setup (suc number) events (after_event k setup number event before)) run) fooled

  -- only bytes that come stop it
  record StoppedBy (number : ℕ) (event : Event) (at_number : ℕ) (side : Side) : Type 0 where
    bytes : ℕ
    event_is : event ≡ Pass side bytes
    number_is : number ≡ at_number

  came_stopped : (number : ℕ) (s : Side) (n : ℕ) (came : Arrival (LineEndState C)) (run : Run C) (at_number : ℕ) (side : Side) →
      run.verdict ≡ Clean → (after_hearing number s came run).verdict ≡ Fooled at_number side →
      StoppedBy number (Pass s n) at_number side
  came_stopped number s n (all_taken h) run at_number side clean fooled =
      absurd (let e : Clean ≡ Fooled at_number side = sym clean ∙ fooled in cc)
  came_stopped number s n (stopped h) run at_number side clean fooled = record {
    bytes = n;
    event_is = ap (λ z. Pass z n) (ap side_of fooled);
    number_is = ap number_of fooled;
  }
    where
      side_of : LineVerdict → Side
      side_of (Fooled m z) = z
      side_of Clean = s

      number_of : LineVerdict → ℕ
      number_of (Fooled m z) = m
      number_of Clean = number

  not_stopped : (number : ℕ) (event : Event) (run : Run C) (at_number : ℕ) (side : Side) → run.verdict ≡ Clean →
      run.verdict ≡ Fooled at_number side → StoppedBy number event at_number side
  not_stopped number event run at_number side clean fooled =
      absurd (let e : Clean ≡ Fooled at_number side = sym clean ∙ fooled in cc)

  event_stopped : (number : ℕ) (event : Event) (run : Run C) (at_number : ℕ) (side : Side) → run.verdict ≡ Clean →
      (after_event k setup number event run).verdict ≡ Fooled at_number side → StoppedBy number event at_number side
  event_stopped number (Pass s n) run at_number side clean fooled =
      came_stopped number s n (hears_next k setup s n run) (with_line_to s (drop n) run) at_number side clean fooled
  event_stopped number (Drop s n) run at_number side clean fooled = not_stopped number (Drop s n) run at_number side clean fooled
  event_stopped number (Flip s mask) run at_number side clean fooled = not_stopped number (Flip s mask) run at_number side clean fooled
  event_stopped number (Insert s byte) run at_number side clean fooled = not_stopped number (Insert s byte) run at_number side clean fooled
  event_stopped number (Timeout s) run at_number side clean fooled = not_stopped number (Timeout s) run at_number side clean fooled
  event_stopped number (HangUp s) run at_number side clean fooled = not_stopped number (HangUp s) run at_number side clean fooled
  event_stopped number Call run at_number side clean fooled = absurd cc

  -- behind so many of these events
  record StoppedBehind (number : ℕ) (events : List Event) (run : Run C) (at_number : ℕ) (side : Side) : Type 0 where
    before : ℕ
    number_is : number + before ≡ at_number
    bytes : ℕ
    event : slice_get events before ≡ Some (Pass side bytes)
    clean_before : (goes_through k setup number (take before events) run).verdict ≡ Clean
    nothing_behind : goes_through k setup number events run ≡ goes_through k setup number (take (suc before) events) run

  stopped_behind : (number : ℕ) (events : List Event) (run : Run C) (at_number : ℕ) (side : Side) → run.verdict ≡ Clean →
      (goes_through k setup number events run).verdict ≡ Fooled at_number side →
      StoppedBehind number events run at_number side
  stopped_behind number [] run at_number side clean fooled =
      absurd (let e : Clean ≡ Fooled at_number side = sym clean ∙ fooled in cc)
  stopped_behind number (event ∷ events) run at_number side clean fooled =
      by run'.verdict refl (stopped_behind (suc number) events run' at_number side)
    where
      run' : Run C
      run' = after_event k setup number event run

      fooled' : (goes_through k setup (suc number) events run').verdict ≡ Fooled at_number side
      fooled' = ap (λ (r : Run C). r.verdict) (sym (when_clean number event events run clean)) ∙ fooled

      by : (v : LineVerdict) → run'.verdict ≡ v →
          (run'.verdict ≡ Clean → (goes_through k setup (suc number) events run').verdict ≡ Fooled at_number side →
          StoppedBehind (suc number) events run' at_number side) →
          StoppedBehind number (event ∷ events) run at_number side
      by Clean is more = let later = more is fooled' in record {
        before = suc later.before;
        number_is = omega (arith, later.number_is);
        bytes = later.bytes;
        event = later.event;
        clean_before = ap (λ (r : Run C). r.verdict) (when_clean number event (take later.before events) run clean) ∙ later.clean_before;
        nothing_behind = when_clean number event events run clean ∙ later.nothing_behind
            ∙ sym (when_clean number event (take (suc later.before) events) run clean);
      }
      by (Fooled m z) is more =
          let stays = when_fooled (suc number) m z events run' is in
          let here = event_stopped number event run at_number side clean (ap (λ (r : Run C). r.verdict) (sym stays) ∙ fooled') in
          record {
            before = 0;
            number_is = omega (arith, here.number_is);
            bytes = here.bytes;
            event = ap Some here.event_is;
            clean_before = clean;
            nothing_behind = when_clean number event events run clean ∙ stays ∙ sym (when_clean number event [] run clean);
          }

  pub stopped_at : (events : List Event) (number : ℕ) (side : Side) → (run_of k setup events).verdict ≡ Fooled number side →
      StoppedAt k setup events number side
  stopped_at events number side fooled =
      let s = stopped_behind 0 events (first_run k setup) number side refl fooled in
      subst (λ n. StoppedAt k setup events n side) (let e : s.before ≡ number = omega (arith, s.number_is) in e) (record {
        bytes = s.bytes;
        event = s.event;
        clean_before = s.clean_before;
        nothing_behind = s.nothing_behind;
      })
