-- The listing of a stream (this project's profile): a line for each item, and one for the rest.
use Rattle.std.specs.Prelude.{◌≡◌, ℕ, ◌+◌, ⊤, List, [], ◌∷◌, ◌++◌, length, codes}
use Rattle.std.specs.Fmt.{decimal}
use Rattle.uug_packet.specs.Field.{IsFieldCode, field_size}
use Rattle.uug_packet.specs.Packet.{ControlValue, close, rj, srj, rr, init_c, init_b, init_a, PacketValue, control, carry}
use Rattle.uug_reader.specs.Cut.{Item, found, bad}
use Rattle.uug_reader.specs.Scan.{IsScan}

-- a line feed ends each line
abbrev pub ended : List ℕ → List ℕ
ended text = text ++ 10 ∷ []

-- INITB asks for fields of the size whose code is one more than its own
abbrev pub control_text : ControlValue → List ℕ
control_text close = codes "CLOSE"
control_text (rj y) = codes "RJ " ++ decimal y
control_text (srj y) = codes "SRJ " ++ decimal y
control_text (rr y) = codes "RR " ++ decimal y
control_text (init_c y) = codes "INITC " ++ decimal y
control_text (init_b y) = codes "INITB " ++ decimal (field_size (y + 1))
control_text (init_a y) = codes "INITA " ++ decimal y

-- number, acknowledgement, size of the field, and how many of its bytes are valid
abbrev pub data_text : ℕ → ℕ → ℕ → ℕ → List ℕ
data_text seq ack size valid =
    codes "DATA " ++ decimal seq ++ codes " ACK " ++ decimal ack
    ++ codes " SIZE " ++ decimal size ++ codes " VALID " ++ decimal valid

-- of the bytes of a data packet's field the message's are valid
abbrev pub packet_text : PacketValue → List ℕ
packet_text (control p) = control_text p
packet_text (carry seq ack k message) = data_text seq ack (field_size k) (length message)

-- the code of a field's size is one of the eight
abbrev pub HasSize : Item → Type 0
HasSize (found (control p)) = ⊤
HasSize (found (carry seq ack k message)) = IsFieldCode k
HasSize bad = ⊤

abbrev pub line_of : Item → List ℕ
line_of (found p) = ended (packet_text p)
line_of bad = ended (codes "BAD")

abbrev pub lines_of : List Item → List ℕ
lines_of [] = []
lines_of (item ∷ items) = line_of item ++ lines_of items

-- the last line: how many bytes wait at the end
abbrev pub waiting_line : ℕ → List ℕ
waiting_line n = ended (codes "REST " ++ decimal n)

abbrev pub rest_line : List ℕ → List ℕ
rest_line rest = waiting_line (length rest)

abbrev pub listing_of : List Item → List ℕ → List ℕ
listing_of items rest = lines_of items ++ rest_line rest

-- the text is the listing of the stream
pub record IsListing (s text : List ℕ) : Type 0 where
  pub items : List Item
  pub rest : List ℕ
  pub scan : IsScan s items rest
  pub text_is : text ≡ listing_of items rest
