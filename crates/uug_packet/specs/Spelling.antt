-- How packets are spelled in bytes. Taylor UUCP manual, UUCP 'g' Protocol; what is this project's own
-- profile is said beside it.
use Rattle.std.specs.Prelude.{◌≡◌, ℕ, ◌+◌, ◌-◌, ◌*◌, ◌/◌, ◌%◌, ◌<◌, ◌≤◌, List, [], ◌∷◌, ◌++◌, length, bit_xor, ⊤}
use Rattle.uug_packet.specs.declared.checksum.TheConstants.{CHECKSUM_BASE}
use Rattle.uug_packet.specs.declared.header.Header.{Header}
use Rattle.uug_packet.specs.declared.header.TheConstants.{START, CONTROL_K}
use Rattle.uug_packet.specs.declared.field.FieldKind.{FieldKind}
use Rattle.uug_packet.specs.declared.field.FieldKind.TheVariants.{Long, Short}
use Rattle.uug_packet.specs.Checksum.{check}
use Rattle.uug_packet.specs.Field.{IsFieldCode, field_size, Holds, canonical_kind, canonical_field}
use Rattle.uug_packet.specs.Packet.{ControlValue, close, rj, srj, rr, init_c, init_b, init_a, PacketValue, control, carry}

-- the checksum that a header carries: 0xaaaa less the number, modulo 65536
abbrev pub checksum_of : ℕ → ℕ
checksum_of n = (CHECKSUM_BASE + (65536 - n)) % 65536

-- the last byte of a header: the exclusive or of the four bytes before it
abbrev pub xor_byte : ℕ → ℕ → ℕ → ℕ → ℕ
xor_byte k low high c = bit_xor (bit_xor (bit_xor k low) high) c

-- 0x10, K, the checksum with its low byte first, the control byte, the exclusive or
abbrev pub header : ℕ → ℕ → ℕ → List ℕ
header k checksum c =
    let low = checksum % 256 in
    let high = checksum / 256 in
    START ∷ k ∷ low ∷ high ∷ c ∷ xor_byte k low high c ∷ []

abbrev pub header_of : Header → List ℕ
header_of h = header h.k h.checksum h.control

-- The byte c says this control packet: eight times its type, and its number. CLOSE may have any number
-- beside it (this project's profile); type 0 is no packet.
abbrev pub IsControlByte : ControlValue → ℕ → Type 0
IsControlByte close c = (y : ℕ) × (y < 8) × (c ≡ 8 * 1 + y)
IsControlByte (rj y) c = (y < 8) × (c ≡ 8 * 2 + y)
IsControlByte (srj y) c = (y < 8) × (c ≡ 8 * 3 + y)
IsControlByte (rr y) c = (y < 8) × (c ≡ 8 * 4 + y)
IsControlByte (init_c y) c = (y < 8) × (c ≡ 8 * 5 + y)
IsControlByte (init_b y) c = (y < 8) × (c ≡ 8 * 6 + y)
IsControlByte (init_a y) c = (y < 8) × (c ≡ 8 * 7 + y)

-- The control byte of a data packet: two bits for the kind of its field, three for its number, three for the number
-- of the last packet correctly received.
abbrev pub data_byte : FieldKind → ℕ → ℕ → ℕ
data_byte Long seq ack = 64 * 2 + 8 * seq + ack
data_byte Short seq ack = 64 * 3 + 8 * seq + ack

-- a data packet: the header, whose checksum is over the whole field, and the field
abbrev pub with_field : FieldKind → ℕ → ℕ → ℕ → List ℕ → List ℕ
with_field kind seq ack k field =
    let c = data_byte kind seq ack in
    header k (checksum_of (bit_xor (check field) c)) c ++ field

pub record SpellsCarry (seq ack k : ℕ) (message w : List ℕ) : Type 0 where
  pub kind : FieldKind
  pub field : List ℕ
  pub code : IsFieldCode k
  pub seq_below : seq < 8
  pub ack_below : ack < 8
  pub holds : Holds kind (field_size k) message field
  pub joined : w ≡ with_field kind seq ack k field

-- the bytes w spell the packet
abbrev pub IsSpelling : PacketValue → List ℕ → Type 0
IsSpelling (control p) w = (c : ℕ) × IsControlByte p c × (w ≡ header CONTROL_K (checksum_of c) c)
IsSpelling (carry seq ack k message) w = SpellsCarry seq ack k message w

-- the control byte that is written: CLOSE has the number 0 (this project's profile)
abbrev pub control_byte : ControlValue → ℕ
control_byte close = 8 * 1
control_byte (rj y) = 8 * 2 + y
control_byte (srj y) = 8 * 3 + y
control_byte (rr y) = 8 * 4 + y
control_byte (init_c y) = 8 * 5 + y
control_byte (init_b y) = 8 * 6 + y
control_byte (init_a y) = 8 * 7 + y

-- the spelling that is written
abbrev pub canonical : PacketValue → List ℕ
canonical (control p) = header CONTROL_K (checksum_of (control_byte p)) (control_byte p)
canonical (carry seq ack k message) =
    with_field (canonical_kind (field_size k) message) seq ack k (canonical_field (field_size k) message)

-- the message fits the field, whose code is one
abbrev pub IsWritable : PacketValue → Type 0
IsWritable (control p) = ⊤
IsWritable (carry seq ack k message) = IsFieldCode k × (length message ≤ field_size k)
