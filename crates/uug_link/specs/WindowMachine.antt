-- The window rules of the protocol on their own: two directions of whole numbers and lists without end, with no
-- numbers modulo eight, spellings, slots, timeouts or rejects. The machine repeats and acknowledges when it likes, and any
-- packet may be lost. Taylor UUCP manual, UUCP 'g' Protocol.
use Rattle.std.specs.Prelude.{◌≡◌, ℕ, ◌+◌, ◌<◌, ◌≤◌, ◌==◌, if◌then◌else◌, List, [], ◌∷◌, ◌++◌, length, ⊤}
use Rattle.uug_link.specs.Terms.{IsWindow}

-- a packet in flight: a data packet has the place of its message among all that were sent, and each packet says how
-- many messages its sender had taken
pub data Flying : Type 0 where
  data_at : (number : ℕ) → (ack : ℕ) → Flying
  acknowledgement : (ack : ℕ) → Flying

abbrev pub ack_of : Flying → ℕ
ack_of (data_at number ack) = ack
ack_of (acknowledgement ack) = ack

pub record Direction : Type 0 where
  -- how many messages may be sent and not acknowledged
  pub window : ℕ
  -- all messages of the session
  pub sent : List (List ℕ)
  -- how many of them count as acknowledged, at the sender
  pub acked : ℕ
  -- how many of them were taken, at the receiver: they are the first ones, each taken once and in order
  pub taken : ℕ
  -- the packets in flight, the first to arrive in front
  pub flight : List Flying

pub record Machine : Type 0 where
  pub out : Direction
  pub back : Direction

abbrev pub empty : ℕ → Direction
empty window = record { window = window; sent = []; acked = 0; taken = 0; flight = [] }

abbrev pub start : ℕ → ℕ → Machine
start window other = record { out = empty window; back = empty other }

-- the same machine seen from the other end
abbrev pub turned : Machine → Machine
turned m = record { out = m.back; back = m.out }

-- ---- the steps in one direction

pub data Act : Type 0 where
  -- a new message is sent
  sends : (message : List ℕ) → Act
  -- a message that is not acknowledged is sent again
  repeats : (number : ℕ) → Act
  -- a bare acknowledgement is sent
  acknowledges : Act
  -- the front of the flight is lost
  loses : Act
  -- the front of the flight arrives
  arrives : Act

abbrev pub Permits : Direction → Act → Type 0
Permits d (sends message) = length d.sent < d.acked + d.window
Permits d (repeats number) = (d.acked ≤ number) × (number < length d.sent)
Permits d acknowledges = ⊤
Permits d loses = 0 < length d.flight
Permits d arrives = 0 < length d.flight

abbrev pub put : Flying → Direction → Direction
put packet d = record d { flight = d.flight ++ packet ∷ [] }

abbrev pub added : List ℕ → Direction → Direction
added message d = record d { sent = d.sent ++ message ∷ [] }

abbrev pub without_front : List Flying → List Flying
without_front [] = []
without_front (packet ∷ packets) = packets

-- the receiver takes the message that it expects, and no other
abbrev pub taken_with : Flying → ℕ → ℕ
taken_with (data_at number ack) taken = if number == taken then taken + 1 else taken
taken_with (acknowledgement ack) taken = taken

-- the front of the flight out arrives: it says what is acknowledged of the way back
abbrev pub after_arrival : Machine → List Flying → Machine
after_arrival m [] = m
after_arrival m (packet ∷ packets) = record {
  out = record m.out { taken = taken_with packet m.out.taken; flight = packets };
  back = record m.back { acked = ack_of packet };
}

-- a step in the direction out
abbrev pub after_act : Machine → Act → Machine
after_act m (sends message) =
    record m { out = added message (put (data_at (length m.out.sent) m.back.taken) m.out) }
after_act m (repeats number) = record m { out = put (data_at number m.back.taken) m.out }
after_act m acknowledges = record m { out = put (acknowledgement m.back.taken) m.out }
after_act m loses = record m { out = record m.out { flight = without_front m.out.flight } }
after_act m arrives = after_arrival m m.out.flight

-- ---- the runs: any steps that are allowed, in either direction

pub data Move : Type 0 where
  on_out : Act → Move
  on_back : Act → Move

abbrev pub Allows : Machine → Move → Type 0
Allows m (on_out act) = Permits m.out act
Allows m (on_back act) = Permits m.back act

abbrev pub after_move : Machine → Move → Machine
after_move m (on_out act) = after_act m act
after_move m (on_back act) = turned (after_act (turned m) act)

-- the same move seen from the other end
abbrev pub mirrored : Move → Move
mirrored (on_out act) = on_back act
mirrored (on_back act) = on_out act

abbrev pub AllAllowed : Machine → List Move → Type 0
AllAllowed m [] = ⊤
AllAllowed m (move ∷ moves) = Allows m move × AllAllowed (after_move m move) moves

abbrev pub after : Machine → List Move → Machine
after m [] = m
after m (move ∷ moves) = after (after_move m move) moves

-- some run leads to the machine
abbrev pub IsReached : ℕ → ℕ → Machine → Type 0
IsReached window other m =
    (moves : List Move) × AllAllowed (start window other) moves × (after (start window other) moves ≡ m)

-- the fact holds after every run, in both directions: of each one and the opposite one
abbrev pub Always : (Direction → Direction → Type 0) → Type 0
Always P = (window other : ℕ) (m : Machine) → IsWindow window → IsWindow other → IsReached window other m →
    P m.out m.back × P m.back m.out

-- ---- what can be said of a flight

-- the fact holds of the number of each data packet
abbrev pub EachNumber : (ℕ → Type 0) → List Flying → Type 0
EachNumber P [] = ⊤
EachNumber P (data_at number ack ∷ packets) = P number × EachNumber P packets
EachNumber P (acknowledgement ack ∷ packets) = EachNumber P packets

-- the fact holds of the acknowledgement of each packet
abbrev pub EachAck : (ℕ → Type 0) → List Flying → Type 0
EachAck P [] = ⊤
EachAck P (packet ∷ packets) = P (ack_of packet) × EachAck P packets

-- the acknowledgements never fall, and lie from the least to the greatest
abbrev pub Rise : ℕ → List Flying → ℕ → Type 0
Rise least [] greatest = least ≤ greatest
Rise least (packet ∷ packets) greatest = (least ≤ ack_of packet) × Rise (ack_of packet) packets greatest
