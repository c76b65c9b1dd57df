-- A run of two ends on a noisy line: what each event does (this project's profile).
use Rattle.std.specs.Prelude.{ℕ, suc, List, [], ◌∷◌, ◌++◌, take, drop, bit_xor}
use Rattle.uug_conversation.specs.Turns.{other}
use Rattle.uug_session.specs.Arriving.{Buffered, Arrival, all_taken, stopped, takes_piece}
use Rattle.uug_session.specs.EndStep.{EndEvent, time_ran_out, line_lost, begins_session}
use Rattle.uug_conversation.specs.Party.{Party}
use Rattle.uug_line.specs.declared.event.Event.{Event}
use Rattle.uug_line.specs.declared.event.Event.TheVariants.{Pass, Drop, Flip, Insert, Timeout, HangUp, Call}
use Rattle.uug_conversation.specs.declared.side.Side.{Side}
use Rattle.uug_line.specs.declared.verdict.LineVerdict.{LineVerdict}
use Rattle.uug_line.specs.declared.verdict.LineVerdict.TheVariants.{Clean, Fooled}
use Rattle.uug_line.specs.Belongings.{Belongings, SetupValue, identity, party, renewed}
use Rattle.uug_line.specs.LineEndState.{LineEndState, Participant, begins, called_with, changed_line}
use Rattle.uug_line.specs.Report.{report_of_end}
use Rattle.uug_line.specs.RunKeeper.{RunKeeper}
use Rattle.uug_conversation.specs.Sides.{AtBoth, at, with_at, at_each}
use Rattle.uug_line.specs.Taking.{line_taker}
use Rattle.uug_line.specs.Told.{EndReportValue}

-- how a run stands
pub record Run (C : Type 0) : Type 0 where
  -- what is told of the sessions that are over
  pub past : List (AtBoth EndReportValue)
  -- the present one: what the ends brought to it, and how they stand
  pub brought : AtBoth Belongings
  pub ends : AtBoth (Buffered (LineEndState C))
  pub verdict : LineVerdict

abbrev pub end_at : {C : Type 0} → Side → Run C → Buffered (LineEndState C)
end_at side run = at side run.ends

abbrev pub with_end_at : {C : Type 0} → Side → Buffered (LineEndState C) → Run C → Run C
with_end_at side h run = record run { ends = with_at side h run.ends }

abbrev pub parties : SetupValue → (brought : AtBoth Belongings) → AtBoth Party
parties setup brought = at_each (party setup brought)

abbrev pub participant : {C : Type 0} → RunKeeper C → SetupValue → Run C → Side → Participant C
participant k setup run side =
    record { identity = identity setup side; keeper = k.keeper (parties setup run.brought) side }

-- what an end has by now
abbrev pub has_now : {C : Type 0} → RunKeeper C → SetupValue → Run C → Side → Belongings
has_now k setup run side =
    k.has (parties setup run.brought) side (at side run.brought) (end_at side run).end.state.number
    (end_at side run).end.state.keeper

-- ---- a session begins

-- the called end says its name
abbrev pub first_end : {C : Type 0} → RunKeeper C → SetupValue → (brought : AtBoth Belongings) → Side → Buffered (LineEndState C)
first_end k setup brought side =
    begins (begins_session (identity setup side) (at side setup).own (at side brought).number (k.first (at side brought)))

-- behind these sessions, to which the ends bring this
abbrev pub session_begins : {C : Type 0} → RunKeeper C → SetupValue → (past : List (AtBoth EndReportValue)) →
    (brought : AtBoth Belongings) → Run C
session_begins k setup past brought = record {
  past = past;
  brought = brought;
  ends = at_each (first_end k setup brought);
  verdict = Clean;
}

-- ---- bytes on the line

-- the next byte is changed by this mask, if there is one
abbrev pub flipped : (mask : ℕ) → List ℕ → List ℕ
flipped mask [] = []
flipped mask (b ∷ bs) = bit_xor b mask ∷ bs

-- the bytes that lead to the side become others; the ends notice nothing
abbrev pub with_line_to : {C : Type 0} → Side → (change : List ℕ → List ℕ) → Run C → Run C
with_line_to side change run = with_end_at (other side) (changed_line change (end_at (other side) run)) run

-- ---- what an event does

-- the next bytes, n of them or all, come to the end on the side as one piece
abbrev pub hears_next : {C : Type 0} → RunKeeper C → SetupValue → Side → (n : ℕ) → Run C → Arrival (LineEndState C)
hears_next k setup side n run =
    takes_piece (line_taker (participant k setup run side) (end_at (other side) run).end.log.packets)
    (take n (end_at (other side) run).end.line) (end_at side run)

-- the end is then so; where it found a packet that was not sent, the run is fooled there
abbrev pub after_hearing : {C : Type 0} → (number : ℕ) → Side → Arrival (LineEndState C) → Run C → Run C
after_hearing number side (all_taken h) run = with_end_at side h run
after_hearing number side (stopped h) run = record (with_end_at side h run) { verdict = Fooled number side }

-- one of an end's calls
abbrev pub calls : {C : Type 0} → RunKeeper C → SetupValue → Side → EndEvent → Run C → Run C
calls k setup side event run = with_end_at side (called_with (participant k setup run side) event (end_at side run)) run

-- both ends hang up (one that has ended does nothing), what is on the line is lost, and a session begins in which all
-- pending jobs are to be offered again
abbrev pub hung_up : {C : Type 0} → RunKeeper C → SetupValue → Run C → Side → Buffered (LineEndState C)
hung_up k setup run side = called_with (participant k setup run side) line_lost (end_at side run)

abbrev pub calls_again : {C : Type 0} → RunKeeper C → SetupValue → Run C → Run C
calls_again k setup run =
    session_begins k setup
    (run.past ++ at_each (λ side. report_of_end (hung_up k setup run side).end) ∷ [])
    (at_each (λ side. renewed (has_now k setup run side)))

-- the event of this number
abbrev pub after_event : {C : Type 0} → RunKeeper C → SetupValue → (number : ℕ) → Event → Run C → Run C
after_event k setup number (Pass side n) run =
    after_hearing number side (hears_next k setup side n run) (with_line_to side (drop n) run)
after_event k setup number (Drop side n) run = with_line_to side (drop n) run
after_event k setup number (Flip side mask) run = with_line_to side (flipped mask) run
after_event k setup number (Insert side byte) run = with_line_to side (λ line. byte ∷ line) run
after_event k setup number (Timeout side) run = calls k setup side time_ran_out run
after_event k setup number (HangUp side) run = calls k setup side line_lost run
after_event k setup number Call run = calls_again k setup run

-- ---- the run

-- a run that is fooled stops
abbrev pub unless_fooled : {C : Type 0} → LineVerdict → (more : Run C → Run C) → Run C → Run C
unless_fooled Clean more run = more run
unless_fooled (Fooled event side) more run = run

-- the events from that number on
abbrev pub goes_through : {C : Type 0} → RunKeeper C → SetupValue → (number : ℕ) → List Event → Run C → Run C
goes_through k setup number [] run = run
goes_through k setup number (event ∷ events) run = unless_fooled run.verdict
    (λ before. goes_through k setup (suc number) events (after_event k setup number event before)) run

-- the first session starts with the run
abbrev pub first_run : {C : Type 0} → RunKeeper C → SetupValue → Run C
first_run k setup = session_begins k setup [] (at_each (λ side. renewed (at side setup).belongings))

abbrev pub run_of : {C : Type 0} → RunKeeper C → SetupValue → List Event → Run C
run_of k setup events = goes_through k setup 0 events (first_run k setup)
