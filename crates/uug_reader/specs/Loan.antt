-- What a reader is once the item that `find` lends is used no more.
use Rattle.std.specs.Prelude.{◌≡◌, MatchOption, Option}
use Rattle.std.specs.Borrow.{Fml, RattleType, MutBor}
use Rattle.std.specs.Io.BufRead.{Rests}
use Rattle.std.specs.declared.alloc.Allocator.{Ghosts}
use Rattle.uug_reader.specs.declared.found.Found.{Found}
use Rattle.uug_reader.specs.contracts.reader.Reader.{the_row}
use Rattle.uug_reader.specs.Finding.{PassesNoise}
use Rattle.uug_reader.specs.Reading.{Reading, Shows, IsWaiting}
use Rattle.uug_reader.specs.Search.{after_search}
use Rattle.uug_reader.specs.Shown.{item_of}

-- From what was held only noise was taken. Then the item that was found stands first and is shown, or all that is
-- held waits, and a byte more fits.
pub record HasSearched (old : Reading) (result : Option Found) (new : Reading) : Type 0 where
  pub passes : PassesNoise old.bytes new.bytes
  pub shows : MatchOption result (IsWaiting new) (λ found. Shows (item_of found) new)
  pub exact : new ≡ after_search old.bytes

-- the search was done
abbrev pub EndsSearched : (A : RattleType) (g : Ghosts A.Denot) → MutBor Reading → Option Found → Fml
EndsSearched A g reader result = Rests (the_row A g) reader (HasSearched reader.now result)
