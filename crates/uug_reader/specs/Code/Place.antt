-- Where an item lies among bytes: this crate's own, which no crate above needs.
use Rattle.std.specs.Prelude.{◌≡◌, ℕ, ◌-◌, ◌<◌, ◌≤◌, List, length, take, drop, MatchOption, IfSome, Option, Some, None, ⊤}
use Rattle.circular_buffer.specs.Buffer.{Buffer}
use Rattle.uug_packet.specs.Number.{number_of}
use Rattle.uug_packet.specs.Packet.{control, carry, shown, shown_control}
use Rattle.uug_packet.specs.Spelling.{IsSpelling}
use Rattle.uug_packet.specs.Waits.{IsBroken, Waits}
use Rattle.uug_reader.specs.declared.place.Place.{Place}
use Rattle.uug_reader.specs.declared.place.Place.TheVariants as places
use Rattle.uug_reader.specs.declared.place.Standing.{Standing}
use Rattle.uug_reader.specs.declared.search.FirstPart.{FirstPart}
use Rattle.uug_reader.specs.declared.search.FirstPart.TheVariants as parts
use Rattle.uug_reader.specs.declared.reader.TheConstants.{READER_SIZE}
use Rattle.uug_reader.specs.Cut.{IsNoise, Item, found, bad}
use Rattle.uug_reader.specs.Finding.{StandsFirst}
use Rattle.uug_reader.specs.Reading.{Reading}

-- the item that lies there
abbrev pub item_at : Place → List ℕ → Item
item_at (places.Control c) bytes = found (control (shown_control c))
item_at (places.Data seq ack k start end) bytes =
    found (carry (number_of seq) (number_of ack) k (take (end - start) (drop start bytes)))
item_at places.Bad bytes = bad

-- the item of that place, with its message laid beside
abbrev pub item_beside : Place → List ℕ → Item
item_beside (places.Control c) beside = found (control (shown_control c))
item_beside (places.Data seq ack k start end) beside = found (carry (number_of seq) (number_of ack) k beside)
item_beside places.Bad beside = bad

abbrev pub LiesIn : Place → List ℕ → Type 0
LiesIn (places.Control c) bytes = ⊤
LiesIn (places.Data seq ack k start end) bytes = (start ≤ end) × (end ≤ length bytes)
LiesIn places.Bad bytes = ⊤

-- the item there stands first
pub record IsFirst (standing : Standing) (bytes : List ℕ) : Type 0 where
  pub stands : StandsFirst (item_at standing.place bytes) standing.size bytes
  pub some : 0 < standing.size
  pub within : standing.size ≤ length bytes
  pub lies : LiesIn standing.place bytes

-- the bytes wait, or that item stands first
abbrev pub StandsThere : Option Standing → List ℕ → Type 0
StandsThere first bytes = MatchOption first (Waits bytes) (λ standing. IsFirst standing bytes)

-- the item with its message laid beside stands first
pub record IsBeside (standing : Standing) (beside bytes : List ℕ) : Type 0 where
  pub stands : StandsFirst (item_beside standing.place beside) standing.size bytes
  pub some : 0 < standing.size
  pub within : standing.size ≤ length bytes

-- the bytes wait, or that item stands first
abbrev pub StandsBeside : Option Standing → List ℕ → List ℕ → Type 0
StandsBeside first beside bytes = MatchOption first (Waits bytes) (λ standing. IsBeside standing beside bytes)

abbrev pub size_of : Option Standing → ℕ
size_of None = 0
size_of (Some standing) = standing.size

-- what a reader holds and shows that passed so many bytes
abbrev pub left : ℕ → Option Standing → List ℕ → Reading
left passed first bytes = record { bytes = drop passed bytes; shown_size = size_of first }

-- a reader's ring, what is laid beside it, and the item shown
pub record Holds (ring : Buffer ℕ) (beside : List ℕ) (shown : Option Standing) : Type 0 where
  pub room : ring.capacity ≡ READER_SIZE
  pub fits : length ring.items ≤ READER_SIZE
  pub first : IfSome shown (λ standing. IsBeside standing beside ring.items)

-- the first part of the bytes
abbrev pub BeginsWith : FirstPart → List ℕ → Type 0
BeginsWith (parts.Packet p n) s = (0 < n) × (n ≤ length s) × IsSpelling (shown p) (take n s)
BeginsWith parts.Bad s = (0 < length s) × IsBroken s
BeginsWith parts.Noise s = (0 < length s) × IsNoise s
