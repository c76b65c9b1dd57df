-- The search for the first item, as a function. That it agrees with what is found first, both ways, is proved.
use Rattle.std.specs.Prelude.{ℕ, ◌==◌, if◌then◌else◌, List, [], ◌∷◌, slice_index, Result, Ok, Err}
use Rattle.uug_packet.specs.declared.decoding.NoPacket.{NoPacket}
use Rattle.uug_packet.specs.declared.decoding.NoPacket.TheVariants as refusals
use Rattle.uug_packet.specs.declared.header.TheConstants.{CONTROL_K}
use Rattle.uug_packet.specs.Decoded.{decoded}
use Rattle.uug_packet.specs.Packet.{PacketValue}
use Rattle.uug_reader.specs.Cut.{Item, found, bad}
use Rattle.uug_reader.specs.Reading.{Reading}

-- behind noise a rest waits, or an item stands first among the others and takes so many bytes
pub data Search : Type 0 where
  waiting : (rest : List ℕ) → Search
  standing : (item : Item) → (size : ℕ) → (others : List ℕ) → Search

-- by what is read at the front of the bytes: an item, nothing yet, or one byte of noise and what is found later
abbrev pub search_by : Result (PacketValue × ℕ) NoPacket → List ℕ → Search → Search
search_by (Ok front) s later = standing (found front.0) front.1 s
search_by (Err refusals.Short) s later = waiting s
search_by (Err refusals.BadLength) s later = standing bad 1 s
search_by (Err refusals.BadSum) s later = if slice_index s 1 == CONTROL_K then later else standing bad 1 s
search_by (Err refusals.BadStart) s later = later
search_by (Err refusals.BadK) s later = later
search_by (Err refusals.BadXor) s later = later
search_by (Err refusals.BadKind) s later = later

abbrev pub search_of : List ℕ → Search
search_of [] = waiting []
search_of (b ∷ s) = search_by (decoded (b ∷ s)) (b ∷ s) (search_of s)

-- what a reader holds and shows then
abbrev pub left_by : Search → Reading
left_by (waiting rest) = record { bytes = rest; shown_size = 0 }
left_by (standing item size others) = record { bytes = others; shown_size = size }

abbrev pub after_search : List ℕ → Reading
after_search s = left_by (search_of s)
