-- What is known of an end's steps in a session where each end has found only what the other has sent: both ends stay
-- joined, and two numbers tell the step.
use Rattle.std.proofs.Common.{◌≡◌, ℕ, ◌≤◌, length, Some}
use Rattle.std.specs.Bool.{⊤}
use Rattle.uug_conversation.specs.Turns.{other}
use Rattle.uug_link.specs.Arrivals.{place_of}
use Rattle.uug_packet.specs.Packet.{PacketValue}
use Rattle.uug_conversation.specs.Count.{Count, count_keeper}
use Rattle.uug_session.specs.EndStep.{EndEvent, linked, packet_found_whole}
use Rattle.uug_conversation.specs.DialogueState.{DialogueState, end_keeper}
use Rattle.uug_link.specs.TwoLinks.{IsFrontOf}
use Rattle.uug_conversation.specs.View.{floor}
use Rattle.uug_conversation.specs.declared.side.Side.{Side}
use Rattle.uug_conversation.specs.declared.side.Side.TheVariants.{Caller, Called}
use Rattle.uug_line.specs.Belongings.{Belongings, SetupValue, identity, party}
use Rattle.uug_line.specs.LineEndState.{LineEndState, Participant, does}
use Rattle.uug_line.specs.Run.{first_end, parties}
use Rattle.uug_line.specs.RunKeeper.{by_themselves, by_numbers, view_at}
use Rattle.uug_conversation.specs.Sides.{AtBoth, at}
use Rattle.uug_line.specs.Taking.{packet_taken_up}
use Rattle.uug_line.specs.World.{count_of, counted_end}
use Rattle.uug_line.proofs.World.Joining.{EndsJoined}

-- the end on the side, itself and by numbers
abbrev pub talk_player : SetupValue → (brought : AtBoth Belongings) → Side → Participant DialogueState
talk_player setup brought side =
    record { identity = identity setup side; keeper = end_keeper side (party setup brought side).holdings }

abbrev pub count_player : SetupValue → (brought : AtBoth Belongings) → Side → Participant Count
count_player setup brought side =
    record { identity = identity setup side; keeper = count_keeper (view_at (parties setup brought) side) }

-- packets are taken up by their places
abbrev pub IsNoPacket : EndEvent → Type 0
IsNoPacket (packet_found_whole device_failed p) = ⊥
IsNoPacket _ = ⊤

-- in a session to which the ends bring this
pub record Steps (setup : SetupValue) (brought : AtBoth Belongings) : Type 0 where
  pub turned : (side : Side) (e f : LineEndState DialogueState) →
      EndsJoined setup brought side e f → EndsJoined setup brought (other side) f e
  -- as the session begins
  pub first_joined : EndsJoined setup brought Caller
      (first_end by_themselves setup brought Caller).end (first_end by_themselves setup brought Called).end
  pub first_counted : (side : Side) →
      counted_end (first_end by_themselves setup brought side).end ≡ (first_end by_numbers setup brought side).end
  -- each step
  pub does_joined : (side : Side) (event : EndEvent) (e f : LineEndState DialogueState) → IsNoPacket event →
      EndsJoined setup brought side e f → EndsJoined setup brought side (does (talk_player setup brought side) event e) f
  pub does_counted : (side : Side) (event : EndEvent) (e f : LineEndState DialogueState) → IsNoPacket event →
      EndsJoined setup brought side e f →
      counted_end (does (talk_player setup brought side) event e) ≡ does (count_player setup brought side) event (counted_end e)
  pub packet_joined : (side : Side) (p : PacketValue) (place : ℕ) (e f : LineEndState DialogueState) →
      e.state.stage ≡ linked →
      place_of p f.log.packets e.log.passed ≡ Some place →
      EndsJoined setup brought side e f →
      EndsJoined setup brought side (packet_taken_up (talk_player setup brought side) p place e) f
  pub packet_counted : (side : Side) (p : PacketValue) (place : ℕ) (e f : LineEndState DialogueState) →
      e.state.stage ≡ linked →
      place_of p f.log.packets e.log.passed ≡ Some place →
      EndsJoined setup brought side e f →
      counted_end (packet_taken_up (talk_player setup brought side) p place e)
      ≡ packet_taken_up (count_player setup brought side) p place (counted_end e)
  -- what an end has, and how far it may be
  pub has_counted : (side : Side) (e f : LineEndState DialogueState) → EndsJoined setup brought side e f →
      by_numbers.has (parties setup brought) side (at side brought) e.state.number (count_of e)
      ≡ by_themselves.has (parties setup brought) side (at side brought) e.state.number e.state.keeper
  pub front : (side : Side) (e f : LineEndState DialogueState) → EndsJoined setup brought side e f →
      IsFrontOf e.log.taken f.log.sent
  pub to_floor : (side : Side) (e f : LineEndState DialogueState) → EndsJoined setup brought side e f →
      length e.log.sent ≤ floor (length e.log.taken) (view_at (parties setup brought) side)
