-- The place of an end of a pair (this project's profile).
use Rattle.std.specs.Prelude.{◌≡◌, ℕ, false, List, codes, None}
use Rattle.uug_link.specs.Announced.{announced}
use Rattle.uug_conversation.specs.Turns.{other}
use Rattle.uug_conversation.specs.declared.side.Side.{Side}
use Rattle.uug_conversation.specs.declared.side.Side.TheVariants.{Caller, Called}
use Rattle.uug_session.specs.declared.place.Place.{Place}
use Rattle.uug_config.specs.Tasks.{Announces}
use Rattle.uug_config.specs.declared.places.TheConstants.{SIZE, WINDOW}

-- the name of each end of a pair
abbrev pub name_at : Side → List ℕ
name_at Caller = codes "a"
name_at Called = codes "b"

-- This is the place of an end of a pair. It keeps no number.
pub record IsPlaceInPair (side : Side) (place : Place) : Type 0 where
  pub me : place.me ≡ name_at side
  pub peer : place.peer ≡ name_at (other side)
  pub announces : Announces WINDOW SIZE false false (announced place.announce)
  pub number : place.number ≡ None
