-- The packets that a link keeps as they are written, since they may have to go out again.
use Rattle.std.specs.Prelude.{◌≡◌, ℕ, zero, suc, ◌+◌, ◌%◌, ◌<◌, ◌≤◌, List, [], ◌∷◌, drop, get_or, map, Result, Ok, Err, ◌⊎◌, ⊤}
use Rattle.arrayvec.specs.ArrayVec.{ArrayVec}
use Rattle.uug_link.specs.declared.limits.TheConstants.{UNACKED_MAX}
use Rattle.uug_link.specs.declared.status.Status.{Status}
use Rattle.uug_link.specs.Reactions.{state_of}
use Rattle.uug_link.specs.State.{State, IsSound}
use Rattle.uug_link.specs.Step.{carrying}
use Rattle.uug_packet.specs.declared.decoding.NoPacket.{NoPacket}
use Rattle.uug_packet.specs.Decoded.{decoded}
use Rattle.uug_packet.specs.Number.{number_of}
use Rattle.uug_packet.specs.Packet.{PacketValue, control, carry}
use Rattle.uug_packet.specs.Spelling.{canonical}
use Rattle.uug_packet.specs.WellFormed.{IsWellFormed}

-- ---- places that are used in turn

-- the bytes in the places
abbrev pub bytes_in : List (ArrayVec ℕ) → List (List ℕ)
bytes_in = map (λ place. place.items)

-- the bytes in so many places, from one place on
abbrev pub in_turn : List (List ℕ) → (place count : ℕ) → List (List ℕ)
in_turn places place zero = []
in_turn places place (suc count) = get_or places (place % UNACKED_MAX) [] ∷ in_turn places (suc place) count

-- So many places were made, and those in use are among them: all were made, or they have not been used in turn yet.
pub record AreInUse (made oldest count : ℕ) : Type 0 where
  pub oldest_below : oldest < UNACKED_MAX
  pub count_below : count ≤ UNACKED_MAX
  pub are_made : (made ≡ UNACKED_MAX) ⊎ (oldest + count ≤ made)

-- ---- what stands in them

abbrev pub carried_in : Result (PacketValue × ℕ) NoPacket → List ℕ
carried_in (Ok (carry seq ack k message, size)) = message
carried_in (Ok (control c, size)) = []
carried_in (Err fault) = []

-- the message of a packet that is written so
abbrev pub message_in : List ℕ → List ℕ
message_in w = carried_in (decoded w)

abbrev pub messages_in : List (List ℕ) → List (List ℕ)
messages_in = map message_in

-- The data packet of that number is written so. What it acknowledges is what was received when it went out last.
pub record IsSlot (number : ℕ) (w : List ℕ) : Type 0 where
  pub ack : ℕ
  pub well_formed : IsWellFormed (carrying number ack (message_in w))
  pub is : w ≡ canonical (carrying number ack (message_in w))

-- such packets, one number after the other
abbrev pub AreSlots : (number : ℕ) → List (List ℕ) → Type 0
AreSlots number [] = ⊤
AreSlots number (w ∷ ws) = IsSlot number w × AreSlots ((number + 1) % 8) ws

-- a link of that status, which keeps these packets
pub record IsLinked (status : Status) (ws : List (List ℕ)) : Type 0 where
  pub sound : IsSound (state_of status (messages_in ws))
  pub slots : AreSlots (number_of status.oldest) ws

-- ---- what a step leaves of them

-- the oldest are struck, and the packets of the others stay as they are
pub record Kept (before after : State) : Type 0 where
  pub struck : ℕ
  pub unacked : after.unacked ≡ drop struck before.unacked
  pub oldest : after.oldest ≡ (before.oldest + struck) % 8

abbrev pub Keeps : State → State → Type 0
Keeps before after = (after.unacked ≡ []) ⊎ Kept before after
