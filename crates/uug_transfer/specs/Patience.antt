-- How long an end stays at a line that brings bytes but no progress (this project's profile).
use Rattle.std.specs.Prelude.{◌≡◌, ◌-◌, ◌≤◌, ℕ}
use Rattle.uug_session.specs.Node.{NodeState}
use Rattle.uug_session.specs.declared.phase.Phase.{Phase}
use Rattle.uug_session.specs.declared.phase.Phase.TheVariants as phases
use Rattle.uug_transfer.specs.Ends.{phase_of_end}
use Rattle.uug_transfer.specs.declared.patience.Patience.{Patience}
use Rattle.uug_transfer.specs.declared.patience.PatienceLimits.{PatienceLimits}
use Rattle.uug_transfer.specs.declared.patience.Standing.{Standing}
use Rattle.uug_transfer.specs.declared.read_outcome.ReadOutcome.{ReadOutcome}
use Rattle.uug_transfer.specs.declared.read_outcome.ReadOutcome.TheVariants.{Bytes, TimedOut, Eof}

-- The standing of an end: its phase, and the numbers of its oldest unacknowledged message and of the next data packet
-- to take. A change of it is progress.
abbrev pub standing_of : NodeState → Standing
standing_of n = record { phase = phase_of_end n; oldest = n.engine.link.oldest; expected = n.engine.link.expected }

-- the seconds for which bytes may come without progress
abbrev pub limit_at : PatienceLimits → Phase → ℕ
limit_at limits phases.Hail = limits.greeting
limit_at limits _ = limits.session

-- when bytes came last, the last progress was no longer ago than the limit
abbrev pub HasPatience : Patience → Type 0
HasPatience p = p.heard - p.since ≤ limit_at p.limits p.standing.phase

-- Bytes came in this second, and the session then had this standing. If the standing changed, the last progress was in
-- this second, and otherwise when it was before.
pub record IsNoted (standing : Standing) (second : ℕ) (before after : Patience) : Type 0 where
  pub limits : after.limits ≡ before.limits
  pub standing_is : after.standing ≡ standing
  pub heard_is : after.heard ≡ second
  pub stays : standing ≡ before.standing → after.since ≡ before.since
  pub moves : (standing ≡ before.standing → ⊥) → after.since ≡ second

-- a silence and the line's end change nothing
abbrev pub Notes : ReadOutcome → Standing → (second : ℕ) → (before after : Patience) → Type 0
Notes (Bytes n) standing second before after = IsNoted standing second before after
Notes TimedOut standing second before after = after ≡ before
Notes Eof standing second before after = after ≡ before
