-- What a reader holds and shows.
use Rattle.std.specs.Prelude.{◌≡◌, ℕ, ◌<◌, List, [], length}
use Rattle.uug_packet.specs.Waits.{Waits}
use Rattle.uug_reader.specs.declared.reader.TheConstants.{READER_SIZE}
use Rattle.uug_reader.specs.Cut.{Item}
use Rattle.uug_reader.specs.Finding.{StandsFirst}

-- the bytes that are held, and how many of them the item takes that is shown, 0 where none is
pub record Reading : Type 0 where
  pub bytes : List ℕ
  pub shown_size : ℕ

-- as it is made, or cleared
abbrev pub fresh : Reading
fresh = record { bytes = []; shown_size = 0 }

-- the item stands first, and is shown
abbrev pub Shows : Item → Reading → Type 0
Shows item r = StandsFirst item r.shown_size r.bytes × (0 < r.shown_size)

-- nothing is shown, all that is held waits, and a byte more fits
abbrev pub IsWaiting : Reading → Type 0
IsWaiting r = Waits r.bytes × (length r.bytes < READER_SIZE) × (r.shown_size ≡ 0)
