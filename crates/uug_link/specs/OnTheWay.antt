-- What a line brings where nothing is lost: read at the end to which it leads, packet by packet, and modulo eight as it stands
-- in the packets. Taylor UUCP manual, UUCP 'g' Protocol.
use Rattle.std.specs.Prelude.{◌≡◌, ◌⊎◌, ℕ, ◌+◌, ◌%◌, ◌≤◌, ◌==◌, if◌then◌else◌, All, List, [], ◌∷◌, ◌++◌, length, ⊤}
use Rattle.uug_link.specs.State.{State, IsPlain, IsUp}
use Rattle.uug_link.specs.Step.{Event, next_number, step}
use Rattle.uug_link.specs.TwoLinks.{End, packets_of}
use Rattle.uug_packet.specs.Packet.{PacketValue, control, carry, rr, rj}

-- ---- packets

-- those that links which are up say to each other
abbrev pub IsTalk : PacketValue → Type 0
IsTalk (carry seq ack k message) = ⊤
IsTalk (control (rr y)) = ⊤
IsTalk (control (rj y)) = ⊤
IsTalk _ = ⊥

abbrev pub IsData : PacketValue → Type 0
IsData (carry seq ack k message) = ⊤
IsData _ = ⊥

-- the number that is expected behind a packet
abbrev pub expected_with : PacketValue → (expected : ℕ) → ℕ
expected_with (carry seq ack k message) expected = if seq == expected then (expected + 1) % 8 else expected
expected_with _ expected = expected

-- the number of the oldest outstanding packet behind one that acknowledges all in front of it
abbrev pub oldest_with : PacketValue → (oldest : ℕ) → ℕ
oldest_with (carry seq ack k message) oldest = (ack + 1) % 8
oldest_with (control (rr y)) oldest = (y + 1) % 8
oldest_with (control (rj y)) oldest = (y + 1) % 8
oldest_with _ oldest = oldest

-- behind several, one after the other
abbrev pub expected_behind : List PacketValue → (expected : ℕ) → ℕ
expected_behind [] expected = expected
expected_behind (p ∷ ps) expected = expected_behind ps (expected_with p expected)

abbrev pub oldest_behind : List PacketValue → (oldest : ℕ) → ℕ
oldest_behind [] oldest = oldest
oldest_behind (p ∷ ps) oldest = oldest_behind ps (oldest_with p oldest)

-- whatever is outstanding at the other link, behind these packets its oldest one is this
abbrev pub TellOldest : List PacketValue → ℕ → Type 0
TellOldest packets number = (oldest : ℕ) → oldest_behind packets oldest ≡ number

-- ---- two links

-- the packets bring the one link all that the other has sent: behind them it expects the number that the other sends next
abbrev pub BringAll : (from to : State) → List PacketValue → Type 0
BringAll from to packets = expected_behind packets to.expected ≡ next_number from

-- the packets tell the one link all that the other has taken: behind them its oldest is the number that the other expects
abbrev pub TellAll : (from to : State) → List PacketValue → Type 0
TellAll from to packets = oldest_behind packets to.oldest ≡ from.expected

-- the packets are the last that the one end has emitted, and the other has found none of them
pub record AreComing (from to : End) (packets : List PacketValue) : Type 0 where
  pub before : List PacketValue
  pub emitted : from.emitted ≡ before ++ packets
  pub passed : to.passed ≤ length before

-- ---- what a link that is up does

-- what goes out in answer: nothing that the other end lacks that would not lack it without, and each packet of it tells
-- all that was taken
pub record Answers (before after : State) (packets : List PacketValue) : Type 0 where
  pub talk : All IsTalk packets
  pub known : expected_behind packets (next_number before) ≡ next_number after
  pub tells : TellOldest packets after.expected ⊎ ((packets ≡ []) × (after.expected ≡ before.expected))

-- an end that is up has found such a packet
pub record Hears (p : PacketValue) (before after : State) (packets : List PacketValue) : Type 0 where
  pub is_up : IsUp after
  pub expected : after.expected ≡ expected_with p before.expected
  pub oldest : after.oldest ≡ oldest_with p before.oldest
  pub answers : Answers before after packets
  -- a data packet is always answered, by an end that is not quiet on repeats
  pub answered : IsPlain before → IsData p → TellOldest packets after.expected

-- an end that is up has sent a message
pub record Sends (before after : State) (packets : List PacketValue) : Type 0 where
  pub is_up : IsUp after
  pub expected : after.expected ≡ before.expected
  pub oldest : after.oldest ≡ before.oldest
  pub talk : All IsTalk packets
  pub brings : expected_behind packets (next_number before) ≡ next_number after
  pub tells : TellOldest packets after.expected

-- an end that is up has repeated what is outstanding: whichever of it the other end expects, it brings that and the rest
pub record Repeats (before after : State) (packets : List PacketValue) : Type 0 where
  pub is_up : IsUp after
  pub expected : after.expected ≡ before.expected
  pub oldest : after.oldest ≡ before.oldest
  pub next : next_number after ≡ next_number before
  pub talk : All IsTalk packets
  pub brings : (taken : ℕ) → taken ≤ length before.unacked →
      expected_behind packets ((before.oldest + taken) % 8) ≡ next_number after
  pub tells : TellOldest packets after.expected ⊎ ((packets ≡ []) × (before.unacked ≡ []))

-- Behind a packet that was found the others still bring and tell all, and so do those on the way back with the answer.
pub record StillBring (p : PacketValue) (before after : State) (answer : List PacketValue) : Type 0 where
  pub brings : (other : State) (ps : List PacketValue) → BringAll other before (p ∷ ps) → BringAll other after ps
  pub tells : (other : State) (ps : List PacketValue) → TellAll other before (p ∷ ps) → TellAll other after ps
  pub brings_back : (other : State) (ps : List PacketValue) → BringAll before other ps → BringAll after other (ps ++ answer)
  pub tells_back : (other : State) (ps : List PacketValue) → TellAll before other ps → TellAll after other (ps ++ answer)

-- the packets that a step emits
abbrev pub emitted_by : State → Event → List PacketValue
emitted_by s event = packets_of (step s event).emitted
