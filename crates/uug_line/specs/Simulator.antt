-- A run as it stands behind so many events (this project's profile).
use Rattle.std.specs.Prelude.{◌≡◌, ℕ, Bool, true, false, List, [], ◌∷◌, ◌++◌, length, Option, Some, None}
use Rattle.uug_line.specs.declared.event.Event.{Event}
use Rattle.uug_line.specs.declared.verdict.LineVerdict.{LineVerdict}
use Rattle.uug_line.specs.declared.verdict.LineVerdict.TheVariants.{Clean, Fooled}
use Rattle.uug_line.specs.Belongings.{SetupValue}
use Rattle.uug_line.specs.OfSomeRun.{IsRunOf}
use Rattle.uug_line.specs.RunValue.{hearing_side}
use Rattle.uug_line.specs.WholeReport.{WholeReport}

pub record SimulatorValue : Type 0 where
  -- what is told of the events so far
  pub report : WholeReport
  -- how many they are
  pub count : ℕ

abbrev pub simulator : WholeReport → (count : ℕ) → SimulatorValue
simulator report count = record { report = report; count = count }

-- as a program keeps it: nothing is left once memory was refused
abbrev pub simulator_kept : Option WholeReport → (count : ℕ) → Option SimulatorValue
simulator_kept None count = None
simulator_kept (Some report) count = Some (simulator report count)

abbrev pub report_kept : Option SimulatorValue → Option WholeReport
report_kept None = None
report_kept (Some s) = Some s.report

-- these events have happened to these two ends
pub record IsBehind (setup : SetupValue) (events : List Event) (s : SimulatorValue) : Type 0 where
  pub is : IsRunOf setup events s.report
  pub counted : s.count ≡ length events

-- it is so of some two ends and some events
pub record IsBehindSome (s : SimulatorValue) : Type 0 where
  pub setup : SetupValue
  pub events : List Event
  pub is : IsBehind setup events s

-- an event happens to a run that stands: of whatever two ends and events that was, it is then of these and this one
abbrev pub Steps : Event → (before after : Option SimulatorValue) → Type 0
Steps event (Some before) (Some after) =
    (setup : SetupValue) (events : List Event) → IsBehind setup events before → IsBehind setup (events ++ event ∷ []) after
Steps event before after = ⊥

-- the verdict behind the event of this number, by whether each packet that was found had been sent
abbrev pub verdict_behind : (all_sent : Bool) → (number : ℕ) → Event → LineVerdict
verdict_behind true number event = Clean
verdict_behind false number event = Fooled number (hearing_side event)
