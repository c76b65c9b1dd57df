-- What stands at the front of a stream, where no packet does (this project's profile).
use Rattle.std.specs.Prelude.{◌≡◌, ◌≢◌, ℕ, ◌<◌, ◌≤◌, List, [], ◌∷◌, ◌++◌, length, slice_index, ⊤, ◌⊎◌}
use Rattle.uug_packet.specs.declared.decoding.NoPacket.{NoPacket}
use Rattle.uug_packet.specs.declared.decoding.NoPacket.TheVariants as refusals
use Rattle.uug_packet.specs.declared.field.FieldKind.{FieldKind}
use Rattle.uug_packet.specs.declared.header.TheConstants.{START, CONTROL_K, HEADER_SIZE}
use Rattle.uug_packet.specs.Field.{IsFieldCode, field_size}
use Rattle.uug_packet.specs.Packet.{PacketValue}
use Rattle.uug_packet.specs.Spelling.{header, data_byte, IsSpelling}

-- nothing yet, or 0x10 and too little behind it for a header
abbrev pub IsCutHeader : List ℕ → Type 0
IsCutHeader [] = ⊤
IsCutHeader (b ∷ bytes) = (b ≡ START) × (length (b ∷ bytes) < HEADER_SIZE)

-- The header of a data packet of code k, of whatever checksum, and the bytes behind it.
pub record BeginsData (s : List ℕ) (k : ℕ) (rest : List ℕ) : Type 0 where
  pub kind : FieldKind
  pub seq : ℕ
  pub ack : ℕ
  pub checksum : ℕ
  pub code : IsFieldCode k
  pub seq_below : seq < 8
  pub ack_below : ack < 8
  pub joined : s ≡ header k checksum (data_byte kind seq ack) ++ rest

-- more bytes are needed to tell
abbrev pub Waits : List ℕ → Type 0
Waits s =
    IsCutHeader s ⊎ ((k : ℕ) × (rest : List ℕ) × BeginsData s k rest × (length rest < field_size k))

-- a data packet begins and is complete, but no packet stands at the front
pub record IsBroken (s : List ℕ) : Type 0 where
  pub k : ℕ
  pub rest : List ℕ
  pub begins : BeginsData s k rest
  pub complete : field_size k ≤ length rest
  pub none : (p : PacketValue) (w more : List ℕ) → IsSpelling p w → s ≡ w ++ more → ⊥

-- the refusals of a data packet that is complete: K, at the second place, says whether it is one
abbrev pub IsDamage : NoPacket → List ℕ → Type 0
IsDamage refusals.BadSum s = slice_index s 1 ≢ CONTROL_K
IsDamage refusals.BadLength s = ⊤
IsDamage refusals.Short s = ⊥
IsDamage refusals.BadStart s = ⊥
IsDamage refusals.BadK s = ⊥
IsDamage refusals.BadXor s = ⊥
IsDamage refusals.BadKind s = ⊥
