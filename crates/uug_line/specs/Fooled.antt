-- What the verdict of a run says of it: whether it stopped at a packet that an end found and that was not sent to it (this
-- project's profile).
use Rattle.std.specs.Prelude.{◌≡◌, ◌↔◌, ℕ, suc, List, [], ◌∷◌, ◌++◌, take, slice_get, Some}
use Rattle.uug_conversation.specs.Turns.{other}
use Rattle.uug_packet.specs.Packet.{PacketValue}
use Rattle.uug_session.specs.Arriving.{Buffered}
use Rattle.uug_session.specs.Finding.{finds_nothing, finds_packet, finding}
use Rattle.uug_line.specs.declared.event.Event.{Event}
use Rattle.uug_line.specs.declared.event.Event.TheVariants.{Pass}
use Rattle.uug_conversation.specs.declared.side.Side.{Side}
use Rattle.uug_line.specs.declared.verdict.LineVerdict.{LineVerdict}
use Rattle.uug_line.specs.declared.verdict.LineVerdict.TheVariants.{Clean, Fooled}
use Rattle.uug_line.specs.Belongings.{SetupValue}
use Rattle.uug_line.specs.LineEndState.{LineEndState}
use Rattle.uug_line.specs.Report.{report_of_end}
use Rattle.uug_line.specs.Run.{Run, end_at, run_of}
use Rattle.uug_line.specs.RunKeeper.{RunKeeper, by_themselves}
use Rattle.uug_conversation.specs.Sides.{AtBoth, at, at_each}
use Rattle.uug_line.specs.WereSent.{HavePlaces, WereSent}
use Rattle.uug_line.specs.World.{run_of_ends}
use Rattle.uug_line.specs.Told.{EndReportValue}

-- ---- in a session

-- the end on the side has found these packets, each at its place among those that the other end emitted: the least one
-- behind the place before it
abbrev pub AreFound : List PacketValue → AtBoth EndReportValue → Side → Type 0
AreFound found session side = HavePlaces found (at side session).arrivals (at (other side) session).packets 0

-- The arrivals of each end are places of some packets among those that the other end emitted, each the least one behind the
-- place before it. That these are the packets that the end found in the bytes that came to it, HasHeard says.
abbrev pub ArrivalsArePlaces : AtBoth EndReportValue → Type 0
ArrivalsArePlaces session = (side : Side) → (found : List PacketValue) × AreFound found session side

-- ---- at the end of a run

-- what is told of its present session
abbrev pub present : {C : Type 0} → Run C → AtBoth EndReportValue
present run = at_each (λ side. report_of_end (end_at side run).end)

-- nothing that is whole stands in the bytes that an end holds: whatever it found was taken up
abbrev pub FindsNothingMore : {C : Type 0} → Buffered (LineEndState C) → Type 0
FindsNothingMore h = finding h.end.state.stage h.held ≡ finds_nothing h.held

-- The packet stands next in the bytes that the end on the side holds. It was not sent: it and those found before it in the
-- session are not among the packets that the other end emitted, in this order and none more often.
pub record FindsUnsent {C : Type 0} (run : Run C) (side : Side) : Type 0 where
  pub found : List PacketValue
  pub are_found : AreFound found (present run) side
  pub packet : PacketValue
  pub behind : List ℕ
  pub next : finding (end_at side run).end.state.stage (end_at side run).held
      ≡ finds_packet packet (end_at side run).held behind
  pub not_sent : WereSent (found ++ packet ∷ []) (at (other side) (present run)).packets → ⊥

-- The run stopped at the event of this number, with which bytes came to the side. It was not fooled before, and what was to
-- happen then did not.
pub record StoppedAt {C : Type 0} (k : RunKeeper C) (setup : SetupValue) (events : List Event) (number : ℕ) (side : Side) : Type 0 where
  pub bytes : ℕ
  pub event : slice_get events number ≡ Some (Pass side bytes)
  pub clean_before : (run_of k setup (take number events)).verdict ≡ Clean
  pub nothing_behind : run_of k setup events ≡ run_of k setup (take (suc number) events)

-- The verdict names a side exactly where the end there has found a packet that was not sent, and with it the event at which
-- the run stopped.
pub record NamesUnsent (setup : SetupValue) (events : List Event) (verdict : LineVerdict) : Type 0 where
  pub exactly : (side : Side) → ((number : ℕ) × (verdict ≡ Fooled number side)) ↔ FindsUnsent (run_of_ends setup events) side
  pub stopped : (number : ℕ) (side : Side) → verdict ≡ Fooled number side → StoppedAt by_themselves setup events number side
