-- How a stream of bytes is cut into packets and noise, from the front (this project's profile).
use Rattle.std.specs.Prelude.{◌≡◌, ℕ, List, [], ◌∷◌, ◌++◌}
use Rattle.uug_packet.specs.Packet.{PacketValue}
use Rattle.uug_packet.specs.Spelling.{IsSpelling}
use Rattle.uug_packet.specs.Waits.{IsBroken, Waits}

-- a packet stands at the front of the bytes
abbrev pub BeginsWithPacket : List ℕ → Type 0
BeginsWithPacket s = (p : PacketValue) × (w rest : List ℕ) × IsSpelling p w × (s ≡ w ++ rest)

-- a part of a stream: the bytes of a packet, the first byte of a broken one, or one byte that is no part of one
pub data Part : Type 0 where
  packet : (p : PacketValue) → (w : List ℕ) → Part
  broken : ℕ → Part
  noise : ℕ → Part

-- nothing that is found stands at the front, and no more bytes are needed to tell
pub record IsNoise (s : List ℕ) : Type 0 where
  pub no_packet : BeginsWithPacket s → ⊥
  pub settled : Waits s → ⊥
  pub not_broken : IsBroken s → ⊥

-- The parts stand at the front of the bytes, one behind the other, and leave the others. A spelling of a
-- packet is a part. One byte is a part where neither a packet begins nor the bytes from there on wait: the byte of
-- a broken packet where one stands there, else noise.
abbrev pub CutsOff : List ℕ → List Part → List ℕ → Type 0
CutsOff s [] others = s ≡ others
CutsOff s (packet p w ∷ parts) others =
    IsSpelling p w × (more : List ℕ) × (s ≡ w ++ more) × CutsOff more parts others
CutsOff s (broken b ∷ parts) others =
    IsBroken s × (more : List ℕ) × (s ≡ b ∷ more) × CutsOff more parts others
CutsOff s (noise b ∷ parts) others = IsNoise s × (more : List ℕ) × (s ≡ b ∷ more) × CutsOff more parts others

-- the whole stream is the parts, and then a rest that waits
pub record IsCut (s : List ℕ) (parts : List Part) (rest : List ℕ) : Type 0 where
  pub parts_are : CutsOff s parts rest
  pub rest_waits : Waits rest

-- what is found in a stream: a packet, or the mark of a broken one
pub data Item : Type 0 where
  found : PacketValue → Item
  bad : Item

-- what is found in the parts, in order
abbrev pub items_of : List Part → List Item
items_of [] = []
items_of (packet p w ∷ parts) = found p ∷ items_of parts
items_of (broken b ∷ parts) = bad ∷ items_of parts
items_of (noise b ∷ parts) = items_of parts
