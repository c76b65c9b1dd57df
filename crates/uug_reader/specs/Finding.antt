-- What is found first in a stream of bytes (this project's profile).
use Rattle.std.specs.Prelude.{◌≡◌, ℕ, ◌≤◌, List, [], length, take}
use Rattle.uug_packet.specs.Spelling.{IsSpelling}
use Rattle.uug_packet.specs.Waits.{IsBroken}
use Rattle.uug_reader.specs.Cut.{Item, found, bad}
use Rattle.uug_reader.specs.Scan.{Finds, IsScan}

-- the item stands at the front, and takes so many bytes: those of the packet, or one of a broken one
abbrev pub StandsFirst : Item → ℕ → List ℕ → Type 0
StandsFirst (found p) n s = IsSpelling p (take n s) × (n ≤ length s)
StandsFirst bad n s = IsBroken s × (n ≡ 1)

-- only noise stands in front of the others
abbrev pub PassesNoise : List ℕ → List ℕ → Type 0
PassesNoise s others = Finds s [] others

-- behind noise the item stands first
abbrev pub FindsFirst : List ℕ → Item → Type 0
FindsFirst s item = (others : List ℕ) × (n : ℕ) × PassesNoise s others × StandsFirst item n others

-- the whole stream is noise and a rest that waits
abbrev pub FindsNothing : List ℕ → Type 0
FindsNothing s = (rest : List ℕ) × IsScan s [] rest
