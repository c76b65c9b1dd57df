-- What items of the program say.
use Rattle.uug_packet.specs.Packet.{shown}
use Rattle.uug_reader.specs.declared.found.Found.{Found}
use Rattle.uug_reader.specs.declared.found.Found.TheVariants as founds
use Rattle.uug_reader.specs.Cut.{Item, found, bad}

-- the item that is shown
abbrev pub item_of : Found → Item
item_of (founds.Packet p) = found (shown p)
item_of founds.Bad = bad
