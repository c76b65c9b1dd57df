-- What an end lets a peer do to it that doesn't keep to the rules. Taylor UUCP manual, UUCP 'g' Protocol; that an
-- acknowledgement of a packet which isn't outstanding changes nothing is this project's profile.
use Rattle.std.specs.Prelude.{◌≡◌, ◌⊎◌, ℕ, ◌+◌, ◌%◌, ◌<◌, ◌≤◌, length, Option, Some, None}
use Rattle.uug_link.specs.State.{State}
use Rattle.uug_packet.specs.Packet.{rr, rj, PacketValue, control, carry}

-- the number that a packet acknowledges, if it acknowledges one
abbrev pub acknowledgement : PacketValue → Option ℕ
acknowledgement (control (rr y)) = Some y
acknowledgement (control (rj y)) = Some y
acknowledgement (control _) = None
acknowledgement (carry seq ack k message) = Some ack

-- the packet of that number is outstanding, so many behind the oldest
pub record StandsBehind (s : State) (y behind : ℕ) : Type 0 where
  pub outstanding : behind < length s.unacked
  pub number : y ≡ (s.oldest + behind) % 8

-- the numbers of a link are below eight, and no more than seven messages are outstanding
pub record HasNumbers (s : State) : Type 0 where
  pub oldest : s.oldest < 8
  pub few : length s.unacked < 8

-- one of the two, and at most each
abbrev pub IsSmallerOf : (x y smaller : ℕ) → Type 0
IsSmallerOf x y smaller = (smaller ≤ x) × (smaller ≤ y) × ((smaller ≡ x) ⊎ (smaller ≡ y))
