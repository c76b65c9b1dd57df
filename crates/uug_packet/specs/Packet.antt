-- Packets as values: what a packet says, wherever its message lies in memory.
-- Taylor UUCP manual, UUCP 'g' Protocol.
use Rattle.std.specs.Prelude.{ℕ, List}
use Rattle.uug_packet.specs.Number.{number_of}
use Rattle.uug_packet.specs.declared.control.Control.{Control}
use Rattle.uug_packet.specs.declared.control.Control.TheVariants.{Close, Rj, Srj, Rr, InitC, InitB, InitA}
use Rattle.uug_packet.specs.declared.packet.Packet.{Packet}
use Rattle.uug_packet.specs.declared.packet.Packet.TheVariants as packets

-- a control packet, and the number that it has beside its type
pub data ControlValue : Type 0 where
  close : ControlValue
  rj : ℕ → ControlValue
  srj : ℕ → ControlValue
  rr : ℕ → ControlValue
  init_c : ℕ → ControlValue
  init_b : ℕ → ControlValue
  init_a : ℕ → ControlValue

-- a packet: a header alone, or a data packet with its number, the number of the last packet correctly
-- received, the code of its field's size, and the valid bytes of its field
pub data PacketValue : Type 0 where
  control : ControlValue → PacketValue
  carry : (seq ack k : ℕ) → (message : List ℕ) → PacketValue

abbrev pub shown_control : Control → ControlValue
shown_control Close = close
shown_control (Rj y) = rj (number_of y)
shown_control (Srj y) = srj (number_of y)
shown_control (Rr y) = rr (number_of y)
shown_control (InitC y) = init_c (number_of y)
shown_control (InitB y) = init_b (number_of y)
shown_control (InitA y) = init_a (number_of y)

-- what a packet of the program says
abbrev pub shown : Packet → PacketValue
shown (packets.Control c) = control (shown_control c)
shown (packets.Carry seq ack k message) = carry (number_of seq) (number_of ack) k message.now
