-- What is told of a run, whichever way a packet is kept in it: as a value, or as it is spelled (this project's profile).
use Rattle.std.specs.Prelude.{ℕ, List}
use Rattle.uug_link.specs.State.{State}
use Rattle.uug_packet.specs.Packet.{PacketValue}
use Rattle.uug_session.specs.declared.phase.Phase.{Phase}
use Rattle.uug_session.specs.EndStep.{Stage}
use Rattle.uug_line.specs.declared.verdict.LineVerdict.{LineVerdict}
use Rattle.uug_line.specs.Belongings.{Belongings}
use Rattle.uug_conversation.specs.Sides.{AtBoth}

-- ---- in a session

-- what an end did, and how far it came
pub record ToldEnd (P : Type 0) : Type 0 where
  -- the messages that it sent, in the order of their first sending, and those that it took
  pub sent : List (List ℕ)
  pub taken : List (List ℕ)
  -- all packets that it emitted
  pub packets : List P
  -- the places of the packets that it found, among those that the other end emitted
  pub arrivals : List ℕ
  -- the most packets that were unacknowledged after any call
  pub most : ℕ
  pub phase : Phase

-- with packets as values, and each in its canonical spelling
abbrev pub EndReportValue : Type 0
EndReportValue = ToldEnd PacketValue

abbrev pub SpelledEnd : Type 0
SpelledEnd = ToldEnd (List ℕ)

-- ---- of a run

-- how an end stands: how far its session is, and its link
pub record EndNow : Type 0 where
  pub stage : Stage
  pub link : State

pub record ToldReport (P : Type 0) : Type 0 where
  -- the sessions in order, the present one last
  pub sessions : List (AtBoth (ToldEnd P))
  -- how the ends stand then, and what they have
  pub ends : AtBoth EndNow
  pub belongings : AtBoth Belongings
  pub verdict : LineVerdict

abbrev pub ReportValue : Type 0
ReportValue = ToldReport PacketValue

abbrev pub SpelledReport : Type 0
SpelledReport = ToldReport (List ℕ)
