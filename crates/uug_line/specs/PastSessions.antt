-- The sessions of a run that are over (this project's profile).
use Rattle.std.specs.Prelude.{◌≡◌, ℕ, List, ◌++◌, length, take, slice_get, Some}
use Rattle.uug_line.specs.declared.event.Event.{Event}
use Rattle.uug_line.specs.declared.event.Event.TheVariants.{Call}
use Rattle.uug_conversation.specs.declared.side.Side.{Side}
use Rattle.uug_line.specs.Belongings.{SetupValue}
use Rattle.uug_line.specs.Fooled.{present}
use Rattle.uug_line.specs.Report.{report_of_end}
use Rattle.uug_line.specs.Run.{hung_up}
use Rattle.uug_line.specs.RunKeeper.{by_themselves}
use Rattle.uug_conversation.specs.Sides.{AtBoth, at, at_each}
use Rattle.uug_line.specs.Told.{EndReportValue, ToldEnd}
use Rattle.uug_line.specs.World.{run_of_ends}

-- The sessions that are over behind these events are the first of those that are over behind them and more.
abbrev pub StayOver : SetupValue → (events more : List Event) → Type 0
StayOver setup events more = (later : List (AtBoth EndReportValue))
    × ((run_of_ends setup (events ++ more)).past ≡ (run_of_ends setup events).past ++ later)

-- the same was sent, taken, emitted and found
pub record DidTheSame {P : Type 0} (one other : ToldEnd P) : Type 0 where
  pub sent : one.sent ≡ other.sent
  pub taken : one.taken ≡ other.taken
  pub packets : one.packets ≡ other.packets
  pub arrivals : one.arrivals ≡ other.arrivals

-- The session of this number, from 0, was the present one when an event called again. It is told as it was once both ends had
-- hung up, with which they did nothing more.
pub record WasPresent (setup : SetupValue) (events : List Event) (number : ℕ) (session : AtBoth EndReportValue) : Type 0 where
  pub before : ℕ
  pub event : slice_get events before ≡ Some Call
  pub earlier : length (run_of_ends setup (take before events)).past ≡ number
  pub told : session ≡ at_each (λ side. report_of_end (hung_up by_themselves setup (run_of_ends setup (take before events)) side).end)
  pub same : (side : Side) → DidTheSame (at side session) (at side (present (run_of_ends setup (take before events))))
