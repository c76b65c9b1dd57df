-- The course of an end: what the events that happen to it in a session have led to (this project's profile). The line
-- and the other end are left out.
use Rattle.std.specs.Prelude.{ℕ, max, Bool, true, List, [], ◌∷◌, ◌++◌, length}
use Rattle.uug_packet.specs.Packet.{PacketValue}
use Rattle.uug_session.specs.EndStep.{EndEffect, EndEvent, EndState, Emitted, Identity, Stage, end_step, linked, message_of, packet_found_whole}
use Rattle.uug_conversation.specs.DialogueState.{DialogueState, end_keeper}
use Rattle.uug_conversation.specs.Holdings.{Holdings}
use Rattle.uug_conversation.specs.declared.side.Side.{Side}
use Rattle.uug_session.specs.Beginnings.{EndBeginning, first_effect, identity_of}

pub record EndCourse : Type 0 where
  pub state : EndState DialogueState
  -- all that it has emitted
  pub emitted : List Emitted
  -- the packets that it has found on its link, and the messages that it has taken
  pub found : List PacketValue
  pub taken : List (List ℕ)
  -- the greatest number of unacknowledged packets, at the beginning and after each event
  pub most : ℕ

-- a packet is found only while the end is linked
abbrev pub packets_found : Stage → EndEvent → List PacketValue
packets_found linked (packet_found_whole device_failed p) = p ∷ []
packets_found _ _ = []

-- the message of a packet, if it was taken
abbrev pub messages_taken : Bool → EndEvent → List (List ℕ)
messages_taken true (packet_found_whole device_failed p) = message_of p ∷ []
messages_taken _ _ = []

abbrev pub after_effect : EndEvent → EndEffect DialogueState → EndCourse → EndCourse
after_effect event effect c = record {
  state = effect.state;
  emitted = c.emitted ++ effect.emitted;
  found = c.found ++ packets_found c.state.stage event;
  taken = c.taken ++ messages_taken effect.took event;
  most = max c.most (length effect.state.link.unacked);
}

-- one event, at an end with this identity, whose spool gives and accepts this
abbrev pub course_step : Holdings → Identity → EndEvent → EndCourse → EndCourse
course_step h id event c = after_effect event (end_step (end_keeper id.side h) id event c.state) c

abbrev pub course_after : Holdings → Identity → List EndEvent → EndCourse → EndCourse
course_after h id [] c = c
course_after h id (event ∷ events) c = course_after h id events (course_step h id event c)

-- the course of a session that has begun, before any event
abbrev pub begun : EndEffect DialogueState → EndCourse
begun effect = record {
  state = effect.state;
  emitted = effect.emitted;
  found = [];
  taken = [];
  most = length effect.state.link.unacked;
}

abbrev pub first_course : Side → EndBeginning → EndCourse
first_course side b = begun (first_effect side b)

-- the course after these events, from the beginning of the session
abbrev pub course : Side → EndBeginning → List EndEvent → EndCourse
course side b events = course_after b.holdings (identity_of side b) events (first_course side b)
