-- What an end does on each event, over whatever keeps its conversation. Taylor UUCP manual, "UUCP Protocol"; the order of
-- emission and how a session ends is this project's profile.
use Rattle.std.specs.Prelude.{ℕ, zero, suc, Bool, true, false, nat_lt, ◌&&◌, List, [], ◌∷◌, ◌++◌, length, map, replicate, Option, Some, None, if◌then◌else◌}
use Rattle.uug_link.specs.declared.limits.TheConstants.{WINDOW_MAX}
use Rattle.uug_link.specs.declared.phase.Phase.{Phase}
use Rattle.uug_link.specs.declared.phase.Phase.TheVariants as phases
use Rattle.uug_link.specs.Announced.{Announced}
use Rattle.uug_link.specs.State.{State, caller_state, called_state}
use Rattle.uug_link.specs.Step.{Effect, Emission, OutcomeValue, nothing, up, taken, closed, gave_up, halted, step, to_begin, packet_found, bad_found, timed_out, to_send, to_close}
use Rattle.uug_link.specs.Terms.{size_of_code}
use Rattle.uug_packet.specs.Packet.{PacketValue, control, carry}
use Rattle.uug_talk.specs.Chunks.{Measure}
use Rattle.uug_session.specs.declared.end.End.{End}
use Rattle.uug_session.specs.declared.end.End.TheVariants as ends
use Rattle.uug_session.specs.declared.greeting.Greeted.{Greeted}
use Rattle.uug_session.specs.declared.greeting.Greeted.TheVariants.{GoesOn, LinkBegins, Ended}
use Rattle.uug_session.specs.declared.greeting.Greeting.{Greeting}
use Rattle.uug_session.specs.Greeting.{GreetingStep, greeting_at_first, first_texts, number_by, text_came, long_text_came, timed_out as greeting_timed_out}
use Rattle.uug_conversation.specs.Keeper.{Keeper}
use Rattle.uug_conversation.specs.declared.side.Side.{Side}
use Rattle.uug_conversation.specs.declared.side.Side.TheVariants.{Caller, Called}

-- how far an end's session has come
pub data Stage : Type 0 where
  hailing : Greeting → Stage
  linked : Stage
  ended : End → Stage

-- an end of a session: the link is there from the start, and begins behind the greeting; and the number of the end's
-- conversations, where it keeps one
pub record EndState (C : Type 0) : Type 0 where
  pub stage : Stage
  pub link : State
  pub keeper : C
  pub number : Option ℕ

-- what goes out: a text, or a packet of the link
pub data Emitted : Type 0 where
  says_text : (text : List ℕ) → Emitted
  sends_packet : Emission → Emitted

-- the end then, what goes out, and whether a message was taken
pub record EndEffect (C : Type 0) : Type 0 where
  pub state : EndState C
  pub emitted : List Emitted
  pub took : Bool

-- what an end is called, which end it calls or is called by, and on which side it stands
pub record Identity : Type 0 where
  pub side : Side
  pub me : List ℕ
  pub peer : List ℕ

abbrev pub packets : List Emission → List Emitted
packets emissions = map sends_packet emissions

-- ---- the end of a session

-- the final text of an end that is done
abbrev pub final_text : Side → List ℕ
final_text Caller = replicate 6 79
final_text Called = replicate 7 79

-- a session that ends after HY was sent or taken is done, however it ends
abbrev pub how_it_ends : (has_parted : Bool) → End → End
how_it_ends true how = ends.Done
how_it_ends false how = how

abbrev pub leave : (has_parted : Bool) → Side → List Emitted
leave true side = says_text (final_text side) ∷ []
leave false side = []

-- the session is over, and the end had parted before it or had not; the number stays, here and in all that the link leads to
abbrev pub ends_so : {C : Type 0} → (number : Option ℕ) → Identity → (has_parted : Bool) → End → Effect → C → (took : Bool) → EndEffect C
ends_so number id has_parted how e c took = record {
  state = record { stage = ended (how_it_ends has_parted how); link = e.state; keeper = c; number = number };
  emitted = packets e.emitted ++ leave has_parted id.side;
  took = took;
}

-- ---- what the end has to say goes out while there is room

abbrev pub is_up : Phase → Bool
is_up phases.Up = true
is_up _ = false

abbrev pub has_room : State → Bool
has_room s = if is_up s.phase then nat_lt (length s.unacked) s.window else false

-- the link and the keeper with these packets more
pub record Sending (C : Type 0) : Type 0 where
  pub link : State
  pub keeper : C
  pub emissions : List Emission

abbrev pub sending_nothing : {C : Type 0} → State → C → Sending C
sending_nothing s c = record { link = s; keeper = c; emissions = [] }

abbrev pub in_front : {C : Type 0} → List Emission → Sending C → Sending C
in_front emissions x = record { link = x.link; keeper = x.keeper; emissions = emissions ++ x.emissions }

-- by the message that is to be said next
abbrev pub sends_next : {C : Type 0} → (more : State → C → Sending C) → Keeper C → Option (List ℕ) → State → C → Sending C
sends_next more k None s c = sending_nothing s c
sends_next more k (Some message) s c =
    in_front (step s (to_send message)).emitted (more (step s (to_send message)).state (k.sent c))

-- by whether there is room
abbrev pub sends_by : {C : Type 0} → (room : Bool) → (more : State → C → Sending C) → Keeper C → State → C → Sending C
sends_by false more k s c = sending_nothing s c
sends_by true more k s c = sends_next more k (k.next c) s c

-- at most so many messages
abbrev pub sends_up_to : {C : Type 0} → ℕ → Keeper C → State → C → Sending C
sends_up_to zero k s c = sending_nothing s c
sends_up_to (suc n) k s c = sends_by (has_room s) (sends_up_to n k) k s c

-- no window lets more out
abbrev pub sends : {C : Type 0} → Keeper C → State → C → Sending C
sends k s c = sends_up_to WINDOW_MAX k s c

-- ---- behind the link's answer

-- CLOSE goes out with the last message, where all is over
abbrev pub closes_by : {C : Type 0} → (over : Bool) → Sending C → Sending C
closes_by false x = x
closes_by true x = record {
  link = (step x.link to_close).state;
  keeper = x.keeper;
  emissions = x.emissions ++ (step x.link to_close).emitted;
}

abbrev pub speaks_and_closes : {C : Type 0} → Keeper C → Sending C → Sending C
speaks_and_closes k x = closes_by (k.is_over x.keeper) x

-- by whether the link is up: an end that closes its link, or has not begun to talk, says nothing more
abbrev pub speaks_by : {C : Type 0} → (up : Bool) → Keeper C → State → C → Sending C
speaks_by false k s c = sending_nothing s c
speaks_by true k s c = speaks_and_closes k (sends k s c)

-- the session goes on: behind what the link emitted the end says what it has to say
abbrev pub goes_on_with : {C : Type 0} → (number : Option ℕ) → (took : Bool) → List Emission → Sending C → EndEffect C
goes_on_with number took emissions x = record {
  state = record { stage = linked; link = x.link; keeper = x.keeper; number = number };
  emitted = packets (emissions ++ x.emissions);
  took = took;
}

abbrev pub goes_on : {C : Type 0} → (number : Option ℕ) → Keeper C → (took : Bool) → Effect → C → EndEffect C
goes_on number k took e c = goes_on_with number took e.emitted (speaks_by (is_up e.state.phase) k e.state c)

-- what ends the session from here emits CLOSE behind the link's answer
abbrev pub then_closes : Effect → Effect
then_closes e = record {
  state = (step e.state to_close).state;
  emitted = e.emitted ++ (step e.state to_close).emitted;
  outcome = e.outcome;
}

-- a message was taken, by whether what it did fitted no turn
abbrev pub talks_by : {C : Type 0} → (number : Option ℕ) → (bad : Bool) → Keeper C → Identity → Effect → (before after : C) → EndEffect C
talks_by number true k id e before after = ends_so number id (k.has_parted before) ends.BadTalk (then_closes e) after true
talks_by number false k id e before after = goes_on number k true e after

-- A message was taken, by whether the spool's device failed at the file that it ended. The spool is asked before
-- anything else is done with the message.
abbrev pub takes_by : {C : Type 0} → (number : Option ℕ) → (device_failed : Bool) → Keeper C → Identity → Effect → (message : List ℕ) → C → EndEffect C
takes_by number true k id e message c = ends_so number id (k.has_parted c) ends.SpoolFault (then_closes e) c true
takes_by number false k id e message c = talks_by number (k.is_bad (k.taking message c)) k id e c (k.taking message c)

-- how an end cuts its messages once its link is up: by the size that the other end announced, and short where it is set so
abbrev pub measure_of : State → Measure
measure_of s = record { size = size_of_code s.size_code; short = s.own.short }

-- by what the link answered
abbrev pub behind_link : {C : Type 0} → (number : Option ℕ) → Keeper C → Identity → (device_failed : Bool) → OutcomeValue → Effect → (message : List ℕ) → C → EndEffect C
behind_link number k id device_failed nothing e message c = goes_on number k false e c
behind_link number k id device_failed up e message c = goes_on number k false e (k.opened (measure_of e.state) c)
behind_link number k id device_failed taken e message c = takes_by number (device_failed && k.asks_spool message c) k id e message c
behind_link number k id device_failed closed e message c = ends_so number id (k.has_parted c) ends.PeerClosed e c false
behind_link number k id device_failed gave_up e message c = ends_so number id (k.has_parted c) ends.GaveUp e c false
behind_link number k id device_failed halted e message c = goes_on number k false e c

-- ---- the events

-- the message of a data packet
abbrev pub message_of : PacketValue → List ℕ
message_of (control c) = []
message_of (carry seq ack k message) = message

abbrev pub packet_came : {C : Type 0} → (number : Option ℕ) → Keeper C → Identity → (device_failed : Bool) → PacketValue → State → C → EndEffect C
packet_came number k id device_failed p s c =
    behind_link number k id device_failed (step s (packet_found p)).outcome (step s (packet_found p)) (message_of p) c

abbrev pub bad_came : {C : Type 0} → (number : Option ℕ) → Keeper C → Identity → State → C → EndEffect C
bad_came number k id s c = behind_link number k id false (step s bad_found).outcome (step s bad_found) [] c

-- a timeout: the conversation does not move
abbrev pub late_link : {C : Type 0} → (number : Option ℕ) → Identity → (has_parted : Bool) → OutcomeValue → Effect → C → EndEffect C
late_link number id has_parted gave_up e c = ends_so number id has_parted ends.GaveUp e c false
late_link number id has_parted _ e c = goes_on_with number false e.emitted (sending_nothing e.state c)

abbrev pub late : {C : Type 0} → (number : Option ℕ) → Identity → (has_parted : Bool) → State → C → EndEffect C
late number id has_parted s c = late_link number id has_parted (step s timed_out).outcome (step s timed_out) c

-- the greeting has led to this, and to this number: the caller begins the link
abbrev pub begins_link : {C : Type 0} → (number : Option ℕ) → Side → State → C → List Emitted → EndEffect C
begins_link number Caller s c said = record {
  state = record { stage = linked; link = (step s to_begin).state; keeper = c; number = number };
  emitted = said ++ packets (step s to_begin).emitted;
  took = false;
}
begins_link number Called s c said = record {
  state = record { stage = linked; link = s; keeper = c; number = number };
  emitted = said;
  took = false;
}

abbrev pub greeted_so : {C : Type 0} → (number : Option ℕ) → Identity → Greeted → List Emitted → State → C → EndEffect C
greeted_so number id (GoesOn g) said s c = record {
  state = record { stage = hailing g; link = s; keeper = c; number = number };
  emitted = said;
  took = false;
}
greeted_so number id LinkBegins said s c = begins_link number id.side s c said
greeted_so number id (Ended how) said s c = record {
  state = record { stage = ended how; link = s; keeper = c; number = number };
  emitted = said;
  took = false;
}

-- of an end that kept this number, or none
abbrev pub behind_greeting : {C : Type 0} → (number : Option ℕ) → Identity → GreetingStep → State → C → EndEffect C
behind_greeting number id g s c = greeted_so (number_by g.rises number) id g.greeted (map says_text g.says) s c

-- nothing happens
abbrev pub unmoved : {C : Type 0} → EndState C → EndEffect C
unmoved e = record { state = e; emitted = []; took = false }

-- what may happen to an end
pub data EndEvent : Type 0 where
  -- a text was found, or one that is too long
  text_found : (text : List ℕ) → EndEvent
  long_text_found : EndEvent
  -- a packet was found, and the spool's device did or did not fail at the file that it ended; or a broken one
  packet_found_whole : (device_failed : Bool) → PacketValue → EndEvent
  broken_found : EndEvent
  -- a timeout
  time_ran_out : EndEvent
  -- the line is gone
  line_lost : EndEvent

-- texts are found in the greeting, and packets behind it
abbrev pub hailing_step : {C : Type 0} → Identity → Greeting → EndEvent → EndState C → EndEffect C
hailing_step id g (text_found text) e = behind_greeting e.number id (text_came id.me id.peer e.number g text) e.link e.keeper
hailing_step id g long_text_found e = behind_greeting e.number id long_text_came e.link e.keeper
hailing_step id g time_ran_out e = behind_greeting e.number id (greeting_timed_out g) e.link e.keeper
hailing_step id g line_lost e = greeted_so e.number id (Ended ends.HungUp) [] e.link e.keeper
hailing_step id g _ e = unmoved e

abbrev pub linked_step : {C : Type 0} → Keeper C → Identity → EndEvent → EndState C → EndEffect C
linked_step k id (packet_found_whole device_failed p) e = packet_came e.number k id device_failed p e.link e.keeper
linked_step k id broken_found e = bad_came e.number k id e.link e.keeper
linked_step k id time_ran_out e = late e.number id (k.has_parted e.keeper) e.link e.keeper
linked_step k id line_lost e =
    greeted_so e.number id (Ended (how_it_ends (k.has_parted e.keeper) ends.HungUp)) [] e.link e.keeper
linked_step k id _ e = unmoved e

-- nothing happens to an end whose session is over
abbrev pub stage_step : {C : Type 0} → Keeper C → Identity → Stage → EndEvent → EndState C → EndEffect C
stage_step k id (hailing g) event e = hailing_step id g event e
stage_step k id linked event e = linked_step k id event e
stage_step k id (ended how) event e = unmoved e

abbrev pub end_step : {C : Type 0} → Keeper C → Identity → EndEvent → EndState C → EndEffect C
end_step k id event e = stage_step k id e.stage event e

-- whether the number rises at an event: where a text of the greeting lets the caller in
abbrev pub rises_at : Identity → (number : Option ℕ) → Stage → EndEvent → Bool
rises_at id number (hailing g) (text_found text) = (text_came id.me id.peer number g text).rises
rises_at id number _ _ = false

-- ---- a session begins

abbrev pub first_stage : Side → Stage
first_stage side = hailing (greeting_at_first side)

abbrev pub first_link : Side → Announced → State
first_link Caller own = caller_state own
first_link Called own = called_state own

-- the called end says its name
abbrev pub first_words : Side → (me : List ℕ) → List Emitted
first_words side me = map says_text (first_texts side me)

abbrev pub begins_session : {C : Type 0} → Identity → Announced → (number : Option ℕ) → C → EndEffect C
begins_session id own number c = record {
  state = record { stage = first_stage id.side; link = first_link id.side own; keeper = c; number = number };
  emitted = first_words id.side id.me;
  took = false;
}
