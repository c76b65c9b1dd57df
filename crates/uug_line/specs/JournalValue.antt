-- How the program writes down what an end did: a packet as it is spelled, and what it says is read from that.
use Rattle.std.specs.Prelude.{ℕ, max, Bool, true, false, List, [], ◌∷◌, ◌++◌, map, Option, Some, None, Result, Ok, Err}
use Rattle.uug_link.specs.Entries.{EntryValue, text, packet}
use Rattle.uug_packet.specs.declared.decoding.NoPacket.{NoPacket}
use Rattle.uug_packet.specs.Decoded.{decoded}
use Rattle.uug_packet.specs.Message.{message_in}
use Rattle.uug_packet.specs.Packet.{PacketValue, close, control}
use Rattle.uug_line.specs.declared.journal.Journal.{Journal}
use Rattle.uug_line.specs.LineEndState.{JournalState, Notes, found_at}
use Rattle.uug_line.specs.Shown.{lists_in}
use Rattle.uug_line.specs.Told.{SpelledEnd}

abbrev pub JournalValue : Type 0
JournalValue = Notes (List ℕ)

abbrev pub journal_value : {A : Type 0} → Journal A → JournalValue
journal_value j = record {
  sent = lists_in j.sent.items;
  taken = lists_in j.taken.items;
  packets = lists_in j.packets.items;
  arrivals = j.arrivals.items;
  passed = j.passed;
  most = j.most;
}

-- of an end of which this is told, and which has found or skipped so many packets
abbrev pub journal_by : SpelledEnd → (passed : ℕ) → JournalValue
journal_by told passed = record {
  sent = told.sent;
  taken = told.taken;
  packets = told.packets;
  arrivals = told.arrivals;
  passed = passed;
  most = told.most;
}

-- ---- what bytes spell

abbrev pub packet_read : Result (PacketValue × ℕ) NoPacket → PacketValue
packet_read (Ok front) = front.0
packet_read (Err e) = control close

-- of bytes that spell one
abbrev pub packet_in : List ℕ → PacketValue
packet_in bytes = packet_read (decoded bytes)

abbrev pub as_list : Option (List ℕ) → List (List ℕ)
as_list None = []
as_list (Some message) = message ∷ []

abbrev pub or_empty : Option (List ℕ) → List ℕ
or_empty None = []
or_empty (Some message) = message

-- ---- what is written down

-- the message of the packet that is spelled so
abbrev pub taking_from : (bytes : List ℕ) → JournalValue → JournalValue
taking_from bytes j = record j { taken = j.taken ++ or_empty (message_in bytes) ∷ [] }

-- the packet at that place, which is spelled so, was found, and its message taken or not
abbrev pub packet_noted : (bytes : List ℕ) → (place : ℕ) → JournalValue → (took : Bool) → JournalValue
packet_noted bytes place j false = found_at place j
packet_noted bytes place j true = taking_from bytes (found_at place j)

-- its message was sent, where it has one
abbrev pub sending_from : (bytes : List ℕ) → JournalValue → JournalValue
sending_from bytes j = record j { sent = j.sent ++ as_list (message_in bytes) }

abbrev pub if_first : (first : Bool) → Option (List ℕ) → List (List ℕ)
if_first true message = as_list message
if_first false message = []

abbrev pub message_of_entry : EntryValue → List (List ℕ)
message_of_entry (text bytes) = []
message_of_entry (packet bytes first) = if_first first (message_in bytes)

abbrev pub packet_of_entry : EntryValue → List (List ℕ)
packet_of_entry (text bytes) = []
packet_of_entry (packet bytes first) = bytes ∷ []

abbrev pub messages_said : List EntryValue → List (List ℕ)
messages_said [] = []
messages_said (e ∷ es) = message_of_entry e ++ messages_said es

abbrev pub packets_said : List EntryValue → List (List ℕ)
packets_said [] = []
packets_said (e ∷ es) = packet_of_entry e ++ packets_said es

-- these entries went out
abbrev pub saying : List EntryValue → JournalValue → JournalValue
saying es j = record j { sent = j.sent ++ messages_said es; packets = j.packets ++ packets_said es }

-- and so many packets were then unacknowledged
abbrev pub with_most : (unacked : ℕ) → JournalValue → JournalValue
with_most unacked j = record j { most = max j.most unacked }

-- ---- the log

abbrev pub log_of : JournalValue → JournalState
log_of j = record {
  sent = j.sent;
  taken = j.taken;
  packets = map packet_in j.packets;
  arrivals = j.arrivals;
  passed = j.passed;
  most = j.most;
}
