-- The rate of a file transfer (this project's profile).
use Rattle.std.specs.Prelude.{◌==◌, ◌-◌, ◌*◌, ◌/◌, ℕ, min, nat_lt, if◌then◌else◌}
use Rattle.uug_observe_log.specs.declared.pace.Mark.{Mark}
use Rattle.uug_observe_log.specs.declared.pace.Pace.{Pace}
use Rattle.uug_observe_log.specs.declared.pace.TheConstants.{MARK_SECONDS}

abbrev pub pace_from : Mark → Pace
pace_from start = record { older = start; newer = start }

-- after `MARK_SECONDS` the newer mark replaces the older one
abbrev pub pace_after : Pace → Mark → Pace
pace_after pace now =
    if nat_lt (now.second - pace.newer.second) MARK_SECONDS then pace else record { older = pace.newer; newer = now }

-- bytes a second, or 0 if no second has passed
abbrev pub rate : (bytes seconds : ℕ) → ℕ
rate bytes seconds = if seconds == 0 then 0 else bytes / seconds

-- the part of a file of this size that has passed, in percent
abbrev pub percent : (position size : ℕ) → ℕ
percent position size = if size == 0 then 100 else min position size * 100 / size
