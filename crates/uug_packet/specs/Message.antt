-- Where the message lies in the bytes of a data packet. Taylor UUCP manual, UUCP 'g' Protocol.
use Rattle.std.specs.Prelude.{◌≡◌, ℕ, ◌+◌, ◌≤◌, nat_lt, if◌then◌else◌, List, length, take, drop, slice_index, Option, Some, None}
use Rattle.std.specs.Result.{result_ok}
use Rattle.uug_packet.specs.declared.field.FieldKind.{FieldKind}
use Rattle.uug_packet.specs.declared.field.FieldKind.TheVariants.{Long, Short}
use Rattle.uug_packet.specs.declared.field.TheConstants.{FIELD_MIN}
use Rattle.uug_packet.specs.declared.header.TheConstants.{CONTROL_PLACE, HEADER_SIZE}
use Rattle.uug_packet.specs.Decoded.{kind_of, message_at}
use Rattle.uug_packet.specs.Field.{front_size}
use Rattle.uug_packet.specs.Packet.{PacketValue, control, carry}

-- what stands in a field in front of its message
abbrev pub front_of : Option FieldKind → ℕ → ℕ
front_of (Some Short) first = front_size first
front_of (Some Long) first = 0
front_of None first = 0

-- behind the header, and in a short field behind its front
abbrev pub message_start : List ℕ → ℕ
message_start w = HEADER_SIZE + front_of (kind_of (slice_index w CONTROL_PLACE)) (slice_index w HEADER_SIZE)

-- the bytes from that place on are the message, and perhaps more
pub record LiesAt (message : List ℕ) (start : ℕ) (w : List ℕ) : Type 0 where
  pub fits : start + length message ≤ length w
  pub is : take (length message) (drop start w) ≡ message

-- ---- the message, read with no check

-- only a data packet has one
abbrev pub message_if_data : PacketValue → Option (List ℕ)
message_if_data (control c) = None
message_if_data (carry seq ack k message) = Some message

abbrev pub message_by_kind : Option FieldKind → (field : List ℕ) → Option (List ℕ)
message_by_kind None field = None
message_by_kind (Some kind) field = result_ok (message_at kind field)

-- what is read of the bytes of a packet: those of a control packet are fewer than those of any data packet
abbrev pub message_in : List ℕ → Option (List ℕ)
message_in w =
    if nat_lt (length w) (HEADER_SIZE + FIELD_MIN) then None
    else message_by_kind (kind_of (slice_index w CONTROL_PLACE)) (drop HEADER_SIZE w)
