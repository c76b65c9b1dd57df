-- Ends whose packets can all be written. Taylor UUCP manual, UUCP 'g' Protocol; that the called end's link waits from the
-- start is this project's profile.
use Rattle.std.specs.Prelude.{◌≡◌, ℕ, ◌≤◌, length, All, ⊤}
use Rattle.uug_link.specs.InRange.{IsInRange}
use Rattle.uug_link.specs.State.{State, IsFresh, IsUp}
use Rattle.uug_link.specs.Terms.{size_of_code}
use Rattle.uug_packet.specs.WellFormed.{IsWellFormed}
use Rattle.uug_session.specs.EndStep.{EndEvent, packet_found_whole, EndState, Emitted, says_text, sends_packet, Stage, hailing}
use Rattle.uug_conversation.specs.DialogueState.{DialogueState}
use Rattle.uug_conversation.specs.declared.side.Side.{Side}
use Rattle.uug_conversation.specs.declared.side.Side.TheVariants.{Caller}

-- a text goes out framed; a packet is one
abbrev pub CanBeWritten : Emitted → Type 0
CanBeWritten (says_text text) = ⊤
CanBeWritten (sends_packet e) = IsWellFormed e.packet

-- what is found as a packet is one
abbrev pub MayFind : EndEvent → Type 0
MayFind (packet_found_whole device_failed p) = IsWellFormed p
MayFind _ = ⊤

-- it speaks in messages of this size, and none that waits is longer
pub record HasSize (size : ℕ) (talk : DialogueState) : Type 0 where
  pub is : talk.measure.size ≡ size
  pub fit : All (λ message. length message ≤ size) talk.waiting

-- in the greeting a caller has not begun its link
abbrev pub BeginsFresh : Side → Stage → State → Type 0
BeginsFresh Caller (hailing greeting) s = IsFresh s
BeginsFresh _ _ s = ⊤

-- The end on the side has a link in range, and once that is up, messages of the size that the other end announced.
pub record IsEndInRange (side : Side) (e : EndState DialogueState) : Type 0 where
  pub link : IsInRange e.link
  pub fresh : BeginsFresh side e.stage e.link
  pub talk : IsUp e.link → HasSize (size_of_code e.link.size_code) e.keeper
