-- What holds between the two ends of a session on a line, as long as each has found only what the other has sent.
use Rattle.std.proofs.Common.{◌≡◌, ◌⊎◌, ℕ, ◌≤◌, true, false, List}
use Rattle.uug_link.specs.State.{State, IsUp, IsStarting}
use Rattle.uug_link.specs.Terms.{IsWindow}
use Rattle.uug_link.specs.TwoLinks.{End}
use Rattle.uug_packet.specs.Packet.{PacketValue}
use Rattle.uug_session.specs.declared.greeting.Greeting.{Greeting}
use Rattle.uug_session.specs.EndStep.{hailing, first_link}
use Rattle.uug_conversation.specs.Jobs.{at_start, pending}
use Rattle.uug_conversation.specs.Party.{Party, IsSound, Suit}
use Rattle.uug_conversation.specs.DialogueState.{DialogueState, end_keeper, unopened}
use Rattle.uug_session.specs.Told.{talk_behind}
use Rattle.uug_conversation.specs.Turns.{other}
use Rattle.uug_session.specs.TwoEnds.{Talker, Two, Reached, first_talker, talker}
use Rattle.uug_conversation.specs.declared.side.Side.{Side}
use Rattle.uug_conversation.specs.declared.side.Side.TheVariants.{Caller, Called}
use Rattle.uug_line.specs.Belongings.{Belongings, SetupValue, party}
use Rattle.uug_line.specs.LineEndState.{JournalState, LineEndState}
use Rattle.uug_line.specs.LinkRun.{LinksRan}
use Rattle.uug_conversation.specs.Sides.{AtBoth, at}
use Rattle.uug_line.specs.Speaking.{HasSpoken}
use Rattle.uug_line.specs.WereSent.{passed_at}
use Rattle.uug_line.proofs.LinkRunLemmas.{first_of}

-- what an end has come to, but for its stage and what is on its line
pub record Moment : Type 0 where
  pub link : State
  pub talk : DialogueState
  pub sent : List (List ℕ)
  pub taken : List (List ℕ)
  pub packets : List PacketValue
  pub arrivals : List ℕ
  pub passed : ℕ

abbrev pub moment_of : LineEndState DialogueState → Moment
moment_of e = record {
  link = e.state.link;
  talk = e.state.keeper;
  sent = e.log.sent;
  taken = e.log.taken;
  packets = e.log.packets;
  arrivals = e.log.arrivals;
  passed = e.log.passed;
}

abbrev pub link_end : Moment → End
link_end m = record { link = m.link; sent = m.sent; taken = m.taken; emitted = m.packets; passed = m.passed }

-- what an end keeps is that of a talker, behind what it brought; before its link is up, of one to which nothing happened
abbrev pub IsTalk : Side → Party → Belongings → DialogueState → Talker → Type 0
IsTalk me p brought talk t =
    ((talk ≡ unopened brought.lists brought.kept) × (t ≡ first_talker me p))
    ⊎ (talk ≡ talk_behind brought.lists.struck brought.lists.failed brought.kept p.measure t)

-- the conversation is open from where the link is up
pub record IsOpened (m : Moment) : Type 0 where
  pub up : IsUp m.link → m.talk.opened ≡ true
  pub starting : IsStarting m.link.phase → m.talk.opened ≡ false

-- the run of the links of the end on the side and of the other one, from their first states on
abbrev pub LinksOf : SetupValue → Side → (near far : Moment) → Type 0
LinksOf setup side near far =
    LinksRan
    (first_of side (other side) (at side setup).own (at (other side) setup).own)
    (record { near = link_end near; far = link_end far }) near.arrivals far.arrivals

-- the end on the side, and the other one
pub record Joined (setup : SetupValue) (brought : AtBoth Belongings) (side : Side) (near far : Moment) : Type 0 where
  pub links : LinksOf setup side near far
  pub two : Two
  pub reached : Reached (party setup brought Caller) (party setup brought Called) two
  pub near_talk : IsTalk side (party setup brought side) (at side brought) near.talk (talker side two)
  pub near_sent : (talker side two).sent ≡ near.sent
  pub near_taken : (talker side two).taken ≡ near.taken
  pub far_talk : IsTalk (other side) (party setup brought (other side)) (at (other side) brought) far.talk
      (talker (other side) two)
  pub far_sent : (talker (other side) two).sent ≡ far.sent
  pub far_taken : (talker (other side) two).taken ≡ far.taken
  pub near_opened : IsOpened near
  pub far_opened : IsOpened far

-- nothing has come to its link yet
abbrev pub Hails : SetupValue → Side → LineEndState DialogueState → Type 0
Hails setup side e = (g : Greeting) → e.state.stage ≡ hailing g → e.state.link ≡ first_link side (at side setup).own

-- it has skipped no packet after the last that it found
abbrev pub HasPassed : JournalState → Type 0
HasPassed log = log.passed ≡ passed_at log.arrivals 0

-- it has said what it can
abbrev pub Spoken : SetupValue → (brought : AtBoth Belongings) → Side → LineEndState DialogueState → Type 0
Spoken setup brought side e = HasSpoken (end_keeper side (party setup brought side).holdings) e.state

pub record EndsJoined (setup : SetupValue) (brought : AtBoth Belongings) (side : Side) (e f : LineEndState DialogueState) : Type 0 where
  pub joined : Joined setup brought side (moment_of e) (moment_of f)
  pub near_hails : Hails setup side e
  pub far_hails : Hails setup (other side) f
  pub near_most : e.log.most ≤ (at (other side) setup).own.window
  pub far_most : f.log.most ≤ (at side setup).own.window
  pub near_passed : HasPassed e.log
  pub far_passed : HasPassed f.log
  pub near_spoken : Spoken setup brought side e
  pub far_spoken : Spoken setup brought (other side) f

-- ---- what a set-up's types say

-- the windows are windows; what the ends bring to a session is to be offered from the first job on, and is sound
pub record IsSoundSession (setup : SetupValue) (brought : AtBoth Belongings) : Type 0 where
  pub window : (side : Side) → IsWindow (at side setup).own.window
  pub fronts : Suit (party setup brought Caller) (party setup brought Called)
  pub party : (side : Side) → IsSound (party setup brought side)
  pub renewed : (side : Side) → (at side brought).lists
      ≡ at_start (pending (at side brought).lists) (at side brought).lists.struck (at side brought).lists.failed
