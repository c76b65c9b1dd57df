-- The callers of an end: how many are let in, and those that are unknown or silent (this project's profile).
use Rattle.std.specs.Prelude.{◌-◌, ℕ, Bool, true, false, List, codes, if◌then◌else◌}
use Rattle.std.specs.Str.{bytes_eq}
use Rattle.uug_session.specs.declared.end.End.TheVariants.{HungUp}
use Rattle.uug_session.specs.declared.phase.Phase.{Phase}
use Rattle.uug_session.specs.declared.phase.Phase.TheVariants.{Ended}

-- how many may still be let in after this caller, who counts once
abbrev pub left_behind : (left : ℕ) → (was_let_in : Bool) → ℕ
left_behind left true = left
left_behind left false = left - 1

-- ---- an unknown caller

-- a name of no system that this caller has not given
abbrev pub other_than : (name : List ℕ) → List ℕ
other_than name = if bytes_eq name (codes "*") then codes "?" else codes "*"

-- ---- a silent caller

-- its line has ended, after a timeout and without a byte
abbrev pub is_silent_end : (has_paused has_said : Bool) → Phase → Bool
is_silent_end true false (Ended HungUp) = true
is_silent_end has_paused has_said phase = false
