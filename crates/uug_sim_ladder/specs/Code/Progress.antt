-- A run that is drawn as it goes on.
use Rattle.std.specs.Prelude.{ℕ, Bool, true, false, Option, Some, None}
use Rattle.uug_line.specs.declared.event.Event.{Event}
use Rattle.uug_line.specs.WholeReport.{WholeReport}
use Rattle.uug_sim_ladder.specs.declared.drawn_run.Progress.{Progress}
use Rattle.uug_sim_ladder.specs.declared.moment.Moment.{Moment}
use Rattle.uug_sim_ladder.specs.Drawing.{DrawingValue, drawing_shown, is_fooled, stepped}
use Rattle.uug_sim_ladder.specs.Moments.{Front, moment_told}

-- what both ends of a run have done by now
abbrev pub moment_now : Option WholeReport → Option Moment
moment_now None = None
moment_now (Some report) = moment_told report.told

-- a drawing, and whether an end was fooled, so that nothing more is drawn
pub record DrawnSoFar : Type 0 where
  pub drawing : DrawingValue
  pub stopped : Bool

abbrev pub progress_shown : {A : Type 0} → Progress A → DrawnSoFar
progress_shown p = record { drawing = drawing_shown p.drawing; stopped = p.stopped }

-- an event more, behind which this is told
abbrev pub drawn_on : (stopped : Bool) → Event → (number : ℕ) → (before : Option Moment) → (now : Front) → DrawingValue → DrawnSoFar
drawn_on true event number before now d = record { drawing = d; stopped = true }
drawn_on false event number before now d = record {
  drawing = stepped event number before (moment_told now.told) now d;
  stopped = is_fooled now.told.verdict;
}
