-- What an end of a run has heard behind some events (this project's profile).
use Rattle.std.specs.Prelude.{List}
use Rattle.uug_line.specs.declared.event.Event.{Event}
use Rattle.uug_conversation.specs.declared.side.Side.{Side}
use Rattle.uug_line.specs.Belongings.{SetupValue}
use Rattle.uug_line.specs.Delivered.{HasHeardAt, HasScanned, came_in}
use Rattle.uug_line.specs.RunKeeper.{by_themselves}
use Rattle.uug_conversation.specs.Sides.{at}
use Rattle.uug_line.specs.World.{run_of_ends}

-- of the bytes that have then come to it in the session
abbrev pub HasHeardBehind : SetupValue → List Event → Side → Type 0
HasHeardBehind setup events side =
    HasHeardAt by_themselves setup (at side (came_in by_themselves setup events)) (run_of_ends setup events) side

-- on a link, the whole scan of them
abbrev pub HasScannedBehind : SetupValue → List Event → Side → Type 0
HasScannedBehind setup events side = (heard : HasHeardBehind setup events side)
    → HasScanned by_themselves setup (at side (came_in by_themselves setup events)) (run_of_ends setup events) side
    heard
