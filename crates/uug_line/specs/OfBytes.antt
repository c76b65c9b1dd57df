-- Set-ups and events of bytes, as those of the program are by their types (this project's profile).
use Rattle.std.specs.Prelude.{◌<◌, List, All, ⊤}
use Rattle.uug_link.specs.declared.limits.TheConstants.{SIZE_CODES}
use Rattle.uug_packet.specs.Bytes.{AreBytes}
use Rattle.uug_conversation.specs.HeldBytes.{HoldsBytes}
use Rattle.uug_line.specs.declared.event.Event.{Event}
use Rattle.uug_line.specs.declared.event.Event.TheVariants.{Flip, Insert}
use Rattle.uug_conversation.specs.declared.side.Side.{Side}
use Rattle.uug_line.specs.Belongings.{EndSetupValue, SetupValue}
use Rattle.uug_conversation.specs.Sides.{at}
use Rattle.uug_line.specs.SoundSetup.{IsSoundSetup}

-- its name is bytes and its files hold bytes, and the code of the size that it announces is one
pub record IsEndOfBytes (e : EndSetupValue) : Type 0 where
  pub name : AreBytes e.name
  pub files : HoldsBytes e.holdings
  pub size_code : e.own.size_code < SIZE_CODES

abbrev pub IsSetupOfBytes : SetupValue → Type 0
IsSetupOfBytes setup = (side : Side) → IsEndOfBytes (at side setup)

-- what is put on the line is a byte, and so is the mask that changes one
abbrev pub IsOfBytes : Event → Type 0
IsOfBytes (Flip side mask) = mask < 256
IsOfBytes (Insert side byte) = byte < 256
IsOfBytes _ = ⊤

abbrev pub AreOfBytes : List Event → Type 0
AreOfBytes events = All IsOfBytes events

-- what a program's types say of a set-up and of events
pub record AreOfTypes (setup : SetupValue) (events : List Event) : Type 0 where
  pub sound : IsSoundSetup setup
  pub of_bytes : IsSetupOfBytes setup
  pub events_of_bytes : AreOfBytes events
