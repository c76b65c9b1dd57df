-- How the bytes that come to an end are taken up: what is found in them, one after the other (this project's profile).
use Rattle.std.specs.Prelude.{ℕ, zero, suc, List, [], ◌++◌, length, Option, Some, None}
use Rattle.uug_packet.specs.Packet.{PacketValue}
use Rattle.uug_session.specs.EndStep.{Stage, ended, EndEvent}
use Rattle.uug_session.specs.Finding.{Finding, finds_nothing, finds, finds_packet, finding}

-- what takes up what is found, and says how far its session has come: an end, or one with what is written down of it
pub record Receiver (X : Type 0) : Type 0 where
  pub stage_of : X → Stage
  -- a text, one that is too long, or a broken packet
  pub takes : EndEvent → X → X
  -- a packet, where it may be taken up
  pub takes_packet : PacketValue → X → Option X

-- with the bytes that came to it and were not used yet
pub record Buffered (X : Type 0) : Type 0 where
  pub held : List ℕ
  pub end : X

-- an end that has ended forgets all bytes
abbrev pub held_in : Stage → List ℕ → List ℕ
held_in (ended how) bytes = []
held_in _ bytes = bytes

abbrev pub holds : {X : Type 0} → Receiver X → List ℕ → X → Buffered X
holds t bytes x = record { held = held_in (t.stage_of x) bytes; end = x }

-- What came was taken up, as far as it is whole; or a packet was found that may not be taken up, and so things stand
-- before it.
pub data Arrival (X : Type 0) : Type 0 where
  all_taken : Buffered X → Arrival X
  stopped : Buffered X → Arrival X

abbrev pub takes_if : {X : Type 0} → (more : Buffered X → Arrival X) → Receiver X → Option X → (from behind : List ℕ) → X → Arrival X
takes_if more t None from behind x = stopped (holds t from x)
takes_if more t (Some y) from behind x = more (holds t behind y)

-- by what is found next
abbrev pub takes_up : {X : Type 0} → (more : Buffered X → Arrival X) → Receiver X → Finding → X → Arrival X
takes_up more t (finds_nothing rest) x = all_taken (holds t rest x)
takes_up more t (finds event behind) x = more (holds t behind (t.takes event x))
takes_up more t (finds_packet p from behind) x = takes_if more t (t.takes_packet p x) from behind x

-- one after the other, at most so many
abbrev pub takes_up_to : {X : Type 0} → ℕ → Receiver X → Buffered X → Arrival X
takes_up_to zero t h = all_taken h
takes_up_to (suc n) t h = takes_up (takes_up_to n t) t (finding (t.stage_of h.end) h.held) h.end

-- each takes at least a byte
abbrev pub takes_all : {X : Type 0} → Receiver X → Buffered X → Arrival X
takes_all t h = takes_up_to (suc (length h.held)) t h

-- these bytes come as one piece
abbrev pub takes_piece : {X : Type 0} → Receiver X → (piece : List ℕ) → Buffered X → Arrival X
takes_piece t piece h = takes_all t (holds t (h.held ++ piece) h.end)

-- and then these as another
abbrev pub then_takes : {X : Type 0} → Receiver X → (piece : List ℕ) → Arrival X → Arrival X
then_takes t piece (all_taken h) = takes_piece t piece h
then_takes t piece (stopped h) = stopped (holds t (h.held ++ piece) h.end)
