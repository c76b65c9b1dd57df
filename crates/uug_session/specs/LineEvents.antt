-- What an end takes from its line: what comes there, and which events that is to the end (this project's profile).
use Rattle.std.specs.Prelude.{◌≡◌, Bool, ℕ, List, [], ◌∷◌, ◌++◌, Some}
use Rattle.uug_session.specs.Arriving.{Arrival, Buffered, Receiver, all_taken, held_in, stopped, takes_piece}
use Rattle.uug_session.specs.EndStep.{EndEffect, EndEvent, EndState, Emitted, Identity, end_step, line_lost, packet_found_whole, time_ran_out}
use Rattle.uug_session.specs.Engine.{end_of}
use Rattle.uug_session.specs.Node.{NodeState, held_bytes}
use Rattle.uug_session.specs.NodeArriving.{fails_first, fails_later}
use Rattle.uug_conversation.specs.DialogueState.{DialogueState, end_keeper}
use Rattle.uug_conversation.specs.Holdings.{Holdings, Kept}
use Rattle.uug_session.specs.NodeRuns.{IsLedByEvents}

pub data LineEvent : Type 0 where
  -- bytes, and whether the spool's device fails at each of the packets that are found in them
  brings_bytes : (piece : List ℕ) → (failures : List Bool) → LineEvent
  -- nothing, for as long as the line waits
  brings_nothing : LineEvent
  -- the line says that nothing will come any more, which changes nothing at the end
  is_at_end : LineEvent
  -- the end hangs up
  is_left : LineEvent

-- ---- what takes up what is found

-- an end with all that it has emitted, the events that happened to it, and whether the spool's device fails at each of the
-- packets that are still to come
pub record ListeningEnd : Type 0 where
  pub state : EndState DialogueState
  pub emitted : List Emitted
  pub events : List EndEvent
  pub failures : List Bool

abbrev pub with_event : EndEvent → EndEffect DialogueState → (failures : List Bool) → ListeningEnd → ListeningEnd
with_event event effect failures x = record {
  state = effect.state;
  emitted = x.emitted ++ effect.emitted;
  events = x.events ++ event ∷ [];
  failures = failures;
}

abbrev pub event_step : Holdings → Identity → EndEvent → ListeningEnd → EndEffect DialogueState
event_step h id event x = end_step (end_keeper id.side h) id event x.state

-- each item does what the step of its event says; a packet is always taken up
abbrev pub event_taker : Holdings → Identity → Receiver ListeningEnd
event_taker h id = record {
  stage_of = λ x. x.state.stage;
  takes = λ event x. with_event event (event_step h id event x) x.failures x;
  takes_packet = λ p x. Some (with_event (packet_found_whole (fails_first x.failures) p)
      (event_step h id (packet_found_whole (fails_first x.failures) p) x) (fails_later x.failures) x);
}

-- ---- what comes at the line

abbrev pub buffered : {X : Type 0} → Arrival X → Buffered X
buffered (all_taken b) = b
buffered (stopped b) = b

-- the device fails so
abbrev pub failing_so : List Bool → Buffered ListeningEnd → Buffered ListeningEnd
failing_so failures b = record {
  held = b.held;
  end = record { state = b.end.state; emitted = b.end.emitted; events = b.end.events; failures = failures };
}

-- an event that uses no bytes; an end that has ended forgets them
abbrev pub with_call : Holdings → Identity → EndEvent → Buffered ListeningEnd → Buffered ListeningEnd
with_call h id event b = record {
  held = held_in (event_step h id event b.end).state.stage b.held;
  end = with_event event (event_step h id event b.end) b.end.failures b.end;
}

abbrev pub after_line_event : Holdings → Identity → LineEvent → Buffered ListeningEnd → Buffered ListeningEnd
after_line_event h id (brings_bytes piece failures) b =
    buffered (takes_piece (event_taker h id) piece (failing_so failures b))
after_line_event h id brings_nothing b = with_call h id time_ran_out b
after_line_event h id is_at_end b = b
after_line_event h id is_left b = with_call h id line_lost b

abbrev pub after_line_events : Holdings → Identity → List LineEvent → Buffered ListeningEnd → Buffered ListeningEnd
after_line_events h id [] b = b
after_line_events h id (e ∷ es) b = after_line_events h id es (after_line_event h id e b)

-- ---- a node at its line

-- a node that has not heard anything yet, with the bytes that it holds
abbrev pub listening_at : Holdings → List Kept → NodeState → Buffered ListeningEnd
listening_at h kept n = record {
  held = held_bytes n;
  end = record { state = end_of h kept n.engine; emitted = []; events = []; failures = [] };
}

-- what it comes to by what comes at its line
abbrev pub listens_to : Holdings → List Kept → NodeState → List LineEvent → Buffered ListeningEnd
listens_to h kept n es = after_line_events h n.engine.identity es (listening_at h kept n)

-- This came at the line of a node beside a spool that had kept so much, and was taken up; the node has emitted this.
pub record HasListened (h : Holdings) (kept kept_after : List Kept) (es : List LineEvent) (says : List Emitted)
    (before after : NodeState) : Type 0 where
  pub held : (listens_to h kept before es).held ≡ held_bytes after
  pub state : (listens_to h kept before es).end.state ≡ end_of h kept_after after.engine
  pub emitted : (listens_to h kept before es).end.emitted ≡ says
  pub identity : after.engine.identity ≡ before.engine.identity

-- the events that this is to the end led it there, and no others
pub record IsLedByLine (h : Holdings) (kept kept_after : List Kept) (es : List LineEvent) (before after : NodeState) :
    Type 0 where
  pub led : IsLedByEvents h kept kept_after before after
  pub events : led.events ≡ (listens_to h kept before es).end.events
