-- Which packet values are packets. Taylor UUCP manual, UUCP 'g' Protocol.
use Rattle.std.specs.Prelude.{◌≡◌, ℕ, ◌<◌, List, ⊤}
use Rattle.uug_packet.specs.Packet.{ControlValue, close, rj, srj, rr, init_c, init_b, init_a, PacketValue, control, carry}
use Rattle.uug_packet.specs.Spelling.{IsWritable, canonical}

-- the number beside a type has three bits
abbrev pub HasNumber : ControlValue → Type 0
HasNumber close = ⊤
HasNumber (rj y) = y < 8
HasNumber (srj y) = y < 8
HasNumber (rr y) = y < 8
HasNumber (init_c y) = y < 8
HasNumber (init_b y) = y < 8
HasNumber (init_a y) = y < 8

-- so have those of a data packet, whose message fits its field
abbrev pub IsWellFormed : PacketValue → Type 0
IsWellFormed (control c) = HasNumber c
IsWellFormed (carry seq ack k message) = (seq < 8) × (ack < 8) × IsWritable (carry seq ack k message)

-- the bytes are a packet as it is written
pub record IsWritten (w : List ℕ) : Type 0 where
  pub packet : PacketValue
  pub well_formed : IsWellFormed packet
  pub is : w ≡ canonical packet

-- the bytes are a data packet as it is written
pub record IsWrittenCarry (w : List ℕ) : Type 0 where
  pub seq : ℕ
  pub ack : ℕ
  pub k : ℕ
  pub message : List ℕ
  pub well_formed : IsWellFormed (carry seq ack k message)
  pub is : w ≡ canonical (carry seq ack k message)
