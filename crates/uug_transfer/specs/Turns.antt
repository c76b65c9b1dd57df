-- Turns at a line (this project's profile).
use Rattle.std.specs.Prelude.{◌≡◌, ◌≤◌, ℕ, List, [], ⊤, Result, Ok, Err}
use Rattle.uug_conversation.specs.declared.side.Side.{Side}
use Rattle.uug_transfer.specs.declared.turn_fault.TurnFault.{TurnFault}
use Rattle.uug_transfer.specs.declared.turn_fault.TurnFault.TheVariants as faults
use Rattle.uug_transfer.specs.declared.line.TheConstants.{UNREAD_MAX}

-- at most `UNREAD_MAX` bytes are on their way to either end
pub record HasRoom (unread : Side → ℕ) : Type 0 where
  pub within : (side : Side) → unread side ≤ UNREAD_MAX

-- nothing is on its way, and neither end has anything to write
pub record IsQuiet (unread : Side → ℕ) (from_caller from_called : List ℕ) : Type 0 where
  pub read : (side : Side) → unread side ≡ 0
  pub caller_wrote : from_caller ≡ []
  pub called_wrote : from_called ≡ []

-- the fact, unless the line has failed
abbrev pub UnlessLineFailed : {T : Type 0} → Result T TurnFault → Type 0 → Type 0
UnlessLineFailed (Ok done) P = P
UnlessLineFailed (Err faults.Memory) P = P
UnlessLineFailed (Err faults.Line) P = ⊤
