-- The scan of a stream of bytes: what is found in it, and what waits at its end (this project's profile).
use Rattle.std.specs.Prelude.{◌≡◌, ℕ, List}
use Rattle.uug_packet.specs.Waits.{Waits}
use Rattle.uug_reader.specs.Cut.{Part, CutsOff, Item, items_of}

-- in the bytes in front of the others these items are found, in order
abbrev pub Finds : List ℕ → List Item → List ℕ → Type 0
Finds s items others = (parts : List Part) × CutsOff s parts others × (items_of parts ≡ items)

-- these items are found in the whole stream, and the rest waits
pub record IsScan (s : List ℕ) (items : List Item) (rest : List ℕ) : Type 0 where
  pub finds : Finds s items rest
  pub waits : Waits rest
