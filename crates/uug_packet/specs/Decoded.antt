-- What a list of bytes begins with, by tests in a fixed order: the first that fails names the refusal.
-- That this agrees with the spellings of packets, both ways, is proved.
use Rattle.std.specs.Prelude.{ℕ, ◌+◌, ◌-◌, ◌*◌, ◌/◌, ◌%◌, ◌==◌, ◌&&◌, ◌||◌, not, nat_lt, nat_le, Bool, bit_xor, if◌then◌else◌, List, length, take, drop, slice_index, Option, Some, None, Result, Ok, Err}
use Rattle.std.specs.Option.{ok_or}
use Rattle.uug_packet.specs.declared.decoding.NoPacket.{NoPacket}
use Rattle.uug_packet.specs.declared.decoding.NoPacket.TheVariants.{Short, BadStart, BadK, BadXor, BadKind, BadSum, BadLength}
use Rattle.uug_packet.specs.declared.field.FieldKind.{FieldKind}
use Rattle.uug_packet.specs.declared.field.FieldKind.TheVariants as kinds
use Rattle.uug_packet.specs.declared.field.FieldKind.TheVariants.{Long}
use Rattle.uug_packet.specs.declared.field.TheConstants.{ONE_BYTE_MAX}
use Rattle.uug_packet.specs.declared.header.Header.{Header}
use Rattle.uug_packet.specs.declared.header.TheConstants.{START, CONTROL_K, HEADER_SIZE}
use Rattle.uug_packet.specs.Checksum.{check}
use Rattle.uug_packet.specs.Field.{field_size, front_size}
use Rattle.uug_packet.specs.Packet.{ControlValue, close, rj, srj, rr, init_c, init_b, init_a, PacketValue, control, carry}
use Rattle.uug_packet.specs.Spelling.{checksum_of, xor_byte}

infixl 10 ◌>>=◌
-- a step, and then one that needs its value
abbrev pub ◌>>=◌ : {A B : Type 0} → Result A NoPacket → (A → Result B NoPacket) → Result B NoPacket
(Ok x) >>= f = f x
(Err e) >>= f = Err e

-- the header at the front
unfoldable pub header_at : List ℕ → Result Header NoPacket
header_at s =
    let k = slice_index s 1 in
    let low = slice_index s 2 in
    let high = slice_index s 3 in
    let c = slice_index s 4 in
    if length s == 0 then Err Short
    else (if not (slice_index s 0 == START) then Err BadStart
    else (if nat_lt (length s) HEADER_SIZE then Err Short
    else (if k == 0 || nat_lt CONTROL_K k then Err BadK
    else (if not (slice_index s 5 == xor_byte k low high c) then Err BadXor
    else Ok (record { k = k; checksum = low + 256 * high; control = c })))))

-- the control packet that a control byte says, if its type is one
abbrev pub control_of : ℕ → Option ControlValue
control_of c =
    let y = c % 8 in
    if c / 8 == 1 then Some close
    else (if c / 8 == 2 then Some (rj y)
    else (if c / 8 == 3 then Some (srj y)
    else (if c / 8 == 4 then Some (rr y)
    else (if c / 8 == 5 then Some (init_c y)
    else (if c / 8 == 6 then Some (init_b y)
    else (if c / 8 == 7 then Some (init_a y)
    else None))))))

-- of a control packet the kind is tested, then the checksum
abbrev pub control_decoded : Header → Result (PacketValue × ℕ) NoPacket
control_decoded h = do
  p ← ok_or (control_of h.control) BadKind
  if h.checksum == checksum_of h.control then Ok (control p, HEADER_SIZE) else Err BadSum

-- the kind of field that the control byte of a data packet says
abbrev pub kind_of : ℕ → Option FieldKind
kind_of c = if c / 64 == 2 then Some Long else (if c / 64 == 3 then Some kinds.Short else None)

-- the field at the front of what follows a header
abbrev pub field_at : ℕ → List ℕ → Result (List ℕ) NoPacket
field_at size rest = if nat_lt (length rest) size then Err Short else Ok (take size rest)

-- the message of a short field: behind its front, and shorter than the field by what is missing
abbrev pub valid_bytes : List ℕ → ℕ → ℕ → Result (List ℕ) NoPacket
valid_bytes field front missing =
    if nat_le front missing && nat_le missing (length field)
    then Ok (take (length field - missing) (drop front field))
    else Err BadLength

-- how many bytes of a short field are missing
abbrev pub missing_in : List ℕ → ℕ
missing_in field =
    let first = slice_index field 0 in
    if nat_le first ONE_BYTE_MAX then first else first % 128 + 128 * slice_index field 1

abbrev pub message_at : FieldKind → List ℕ → Result (List ℕ) NoPacket
message_at Long field = Ok field
message_at kinds.Short field = valid_bytes field (front_size (slice_index field 0)) (missing_in field)

abbrev pub checked : Bool → Result (List ℕ) NoPacket → Result (List ℕ) NoPacket
checked right message = if right then message else Err BadSum

-- of a data packet the kind is tested, then whether the field is complete, its checksum, and its length
abbrev pub data_decoded : Header → List ℕ → Result (PacketValue × ℕ) NoPacket
data_decoded h rest = do
  kind ← ok_or (kind_of h.control) BadKind
  field ← field_at (field_size h.k) rest
  message ← checked (h.checksum == checksum_of (bit_xor (check field) h.control)) (message_at kind field)
  Ok (carry (h.control / 8 % 8) (h.control % 8) h.k message, HEADER_SIZE + field_size h.k)

-- the packet at the front and its length, or the first refusal
unfoldable pub decoded : List ℕ → Result (PacketValue × ℕ) NoPacket
decoded s = do
  h ← header_at s
  if h.k == CONTROL_K then control_decoded h else data_decoded h (drop HEADER_SIZE s)
