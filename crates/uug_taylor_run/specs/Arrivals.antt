-- The place in the public folder of a received file that an interrupted session had not yet moved there (this project's
-- profile).
use Rattle.std.specs.Prelude.{ℕ, List, Option, Some, None, if◌then◌else◌}
use Rattle.std.specs.Str.{bytes_eq}
use Rattle.uug_taylor_queue.specs.Places.{Public, place_in, temp_name}
use Rattle.uug_taylor_text.specs.declared.spool_names.Spot.{Spot}
use Rattle.uug_talk.specs.Name.{name_of}

-- this place, if a file for it has the marker's name while it is received
abbrev pub landed : (marker : List ℕ) → Option Spot → Option Spot
landed marker None = None
landed marker (Some target) = if bytes_eq (temp_name target) marker then Some target else None

abbrev pub place_by : Public → (marker : List ℕ) → (name : Option (List ℕ)) → Option Spot
place_by public marker None = None
place_by public marker (Some name) = landed marker (place_in public name)

-- the text of the marker is the file's name in the public folder
abbrev pub place_of_arrival : Public → (marker text : List ℕ) → Option Spot
place_of_arrival public marker text = place_by public marker (name_of text)
