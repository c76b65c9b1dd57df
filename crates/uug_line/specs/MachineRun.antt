-- What a session is, packet by packet: a run of its ends' two links, and so many moves of the window machine (this project's
-- profile).
use Rattle.std.specs.Prelude.{◌≡◌, List, All}
use Rattle.uug_link.specs.Moves.{AllMoveWith, ReadsBoth}
use Rattle.uug_link.specs.State.{State, caller_state, called_state}
use Rattle.uug_link.specs.TwoLinks.{End, Ends, first_ends}
use Rattle.uug_link.specs.WindowBounds.{IsWithinBounds}
use Rattle.uug_link.specs.WindowMachine.{Machine, Move, start}
use Rattle.uug_conversation.specs.declared.side.Side.{Side}
use Rattle.uug_conversation.specs.declared.side.Side.TheVariants.{Caller, Called}
use Rattle.uug_line.specs.Belongings.{SetupValue}
use Rattle.uug_line.specs.Fooled.{present}
use Rattle.uug_line.specs.LinkRun.{LinksRan, after_all}
use Rattle.uug_line.specs.Run.{Run, end_at}
use Rattle.uug_conversation.specs.Sides.{AtBoth, at, at_each}
use Rattle.uug_line.specs.Told.{EndReportValue, ReportValue}
use Rattle.uug_line.specs.WereSent.{passed_at}

-- ---- in a session

-- an end's link in this state, with what is told of the end: it has found or skipped the other end's packets up to the
-- place of the last that it found
abbrev pub link_end : EndReportValue → (link : State) → End
link_end told link = record {
  link = link;
  sent = told.sent;
  taken = told.taken;
  emitted = told.packets;
  passed = passed_at told.arrivals 0;
}

-- the links of the two ends
abbrev pub link_ends : AtBoth EndReportValue → (links : AtBoth State) → Ends
link_ends session links = record {
  near = link_end session.at_caller links.at_caller;
  far = link_end session.at_called links.at_called;
}

-- as the ends are set up
abbrev pub first_links : SetupValue → Ends
first_links setup = first_ends (caller_state (at Caller setup).own) (called_state (at Called setup).own)

-- the window machine at the start of a session
abbrev pub first_machine : SetupValue → Machine
first_machine setup = start (at Called setup).own.window (at Caller setup).own.window

-- The session has run as the window machine, and has left its ends' links so.
pub record RanAsMachine (setup : SetupValue) (session : AtBoth EndReportValue) (links : AtBoth State) : Type 0 where
  -- It is a run of the two links from their first states on: in it they have sent and taken these messages, emitted these
  -- packets, and found of each other's those at the places of the arrivals, and no others.
  pub run : LinksRan (first_links setup) (link_ends session links) session.at_caller.arrivals session.at_called.arrivals
  -- The machine has made the moves of what occurred, INIT and CLOSE packets left aside: each allowed, one for each packet
  -- of the window that was emitted, found or lost, with its number and its acknowledgement as their digits modulo eight.
  pub moves : List (List Move)
  pub moved : AllMoveWith (first_links setup) run.occurrences (first_machine setup) moves
  -- So it stands as the links do.
  pub machine : Machine
  pub behind : machine ≡ after_all (first_machine setup) moves
  pub reads : ReadsBoth (link_ends session links) machine
  -- Each direction is within the machine's bounds.
  pub out_bounds : IsWithinBounds machine.out machine.back
  pub back_bounds : IsWithinBounds machine.back machine.out

-- ---- in the present session

-- how its ends' links stand
abbrev pub links_now : {C : Type 0} → Run C → AtBoth State
links_now run = at_each (λ side. (end_at side run).end.state.link)

-- It has run as the machine up to these links; and each end looks for the next packet right behind the last that it found.
pub record PresentRanAsMachine {C : Type 0} (setup : SetupValue) (run : Run C) : Type 0 where
  pub ran : RanAsMachine setup (present run) (links_now run)
  pub passed : (side : Side) → (end_at side run).end.log.passed ≡ passed_at (end_at side run).end.log.arrivals 0

-- ---- in all sessions of a report

-- with some links at its end
abbrev pub SomeLinksRan : SetupValue → AtBoth EndReportValue → Type 0
SomeLinksRan setup session = (links : AtBoth State) × RanAsMachine setup session links

abbrev pub AllRanAsMachine : SetupValue → ReportValue → Type 0
AllRanAsMachine setup report = All (SomeLinksRan setup) report.sessions
