-- An end of a session on a line, and what is written down of it.
use Rattle.std.specs.Prelude.{ℕ, suc, max, Bool, true, false, List, [], ◌∷◌, ◌++◌, length}
use Rattle.uug_packet.specs.Packet.{PacketValue, carry}
use Rattle.uug_packet.specs.Spelling.{canonical}
use Rattle.uug_session.specs.Arriving.{Buffered, held_in}
use Rattle.uug_session.specs.EndStep.{EndState, Emitted, says_text, sends_packet, EndEffect, EndEvent, Identity, end_step}
use Rattle.uug_conversation.specs.Keeper.{Keeper}
use Rattle.uug_talk.specs.Texts.{written_text}

-- what is written down of an end's session, whichever way a packet is kept
pub record Notes (P : Type 0) : Type 0 where
  -- the messages that it sent, in the order of their first sending, and those that it took
  pub sent : List (List ℕ)
  pub taken : List (List ℕ)
  -- all packets that it emitted
  pub packets : List P
  -- the places of the packets that it found, among those that the other end emitted; and how many of those were found
  -- or skipped
  pub arrivals : List ℕ
  pub passed : ℕ
  -- the most packets that were unacknowledged after any call
  pub most : ℕ

-- with packets as values
abbrev pub JournalState : Type 0
JournalState = Notes PacketValue

pub record LineEndState (C : Type 0) : Type 0 where
  pub state : EndState C
  pub log : JournalState
  -- the bytes that it has emitted and that are still on the line to the other end
  pub line : List ℕ

-- who an end is, and what keeps its conversation in a session
pub record Participant (C : Type 0) : Type 0 where
  pub identity : Identity
  pub keeper : Keeper C

-- ---- what is emitted

-- a data packet that goes out for the first time sends its message
abbrev pub sent_by : (first : Bool) → PacketValue → List (List ℕ)
sent_by true (carry seq ack k message) = message ∷ []
sent_by _ _ = []

abbrev pub messages_sent : List Emitted → List (List ℕ)
messages_sent [] = []
messages_sent (says_text text ∷ es) = messages_sent es
messages_sent (sends_packet e ∷ es) = sent_by e.first e.packet ++ messages_sent es

abbrev pub packets_in : List Emitted → List PacketValue
packets_in [] = []
packets_in (says_text text ∷ es) = packets_in es
packets_in (sends_packet e ∷ es) = e.packet ∷ packets_in es

-- as it goes out: a text framed, a packet in its canonical spelling
abbrev pub bytes_in : List Emitted → List ℕ
bytes_in [] = []
bytes_in (says_text text ∷ es) = written_text text ++ bytes_in es
bytes_in (sends_packet e ∷ es) = canonical e.packet ++ bytes_in es

-- ---- what is written down

abbrev pub nothing_done : {P : Type 0} → Notes P
nothing_done = record { sent = []; taken = []; packets = []; arrivals = []; passed = 0; most = 0 }

-- the other end's packet at this place was found
abbrev pub found_at : {P : Type 0} → (place : ℕ) → Notes P → Notes P
found_at place notes = record notes { arrivals = notes.arrivals ++ place ∷ []; passed = suc place }

-- by whether its message was taken
abbrev pub took : Bool → (message : List ℕ) → JournalState → JournalState
took false message log = log
took true message log = record log { taken = log.taken ++ message ∷ [] }

-- a call emitted this, and left so many packets unacknowledged
abbrev pub emitting : List Emitted → (unacked : ℕ) → JournalState → JournalState
emitting emitted unacked log = record log {
  sent = log.sent ++ messages_sent emitted;
  packets = log.packets ++ packets_in emitted;
  most = max log.most unacked;
}

-- ---- a call

-- the bytes on the line are changed so, which the end does not notice
abbrev pub changed_line : {C : Type 0} → (List ℕ → List ℕ) → Buffered (LineEndState C) → Buffered (LineEndState C)
changed_line change h = record {
  held = h.held;
  end = record { state = h.end.state; log = h.end.log; line = change h.end.line };
}

-- a call did this to an end; what it emits goes on the line at once
abbrev pub after_call : {C : Type 0} → JournalState → (line : List ℕ) → EndEffect C → LineEndState C
after_call log line effect = record {
  state = effect.state;
  log = emitting effect.emitted (length effect.state.link.unacked) log;
  line = line ++ bytes_in effect.emitted;
}

abbrev pub does : {C : Type 0} → Participant C → EndEvent → LineEndState C → LineEndState C
does p event e = after_call e.log e.line (end_step p.keeper p.identity event e.state)

-- an end that has ended forgets all bytes
abbrev pub holding : {C : Type 0} → List ℕ → LineEndState C → Buffered (LineEndState C)
holding bytes e = record { held = held_in e.state.stage bytes; end = e }

-- one of an end's calls, which uses no bytes
abbrev pub called_with : {C : Type 0} → Participant C → EndEvent → Buffered (LineEndState C) → Buffered (LineEndState C)
called_with p event h = holding h.held (does p event h.end)

-- a session begins so
abbrev pub begins : {C : Type 0} → EndEffect C → Buffered (LineEndState C)
begins effect = holding [] (after_call nothing_done [] effect)
