-- Which reports a program can have (this project's profile).
use Rattle.std.specs.Prelude.{◌≡◌, List}
use Rattle.uug_line.specs.declared.event.Event.{Event}
use Rattle.uug_conversation.specs.declared.side.Side.{Side}
use Rattle.uug_line.specs.Belongings.{SetupValue}
use Rattle.uug_line.specs.OfBytes.{AreOfTypes}
use Rattle.uug_line.specs.declared.verdict.LineVerdict.TheVariants.{Clean}
use Rattle.uug_line.specs.RunValue.{EndsAs, IsSteady, RunValue}
use Rattle.uug_line.specs.Settle.{line_from}
use Rattle.uug_conversation.specs.Sides.{at}
use Rattle.uug_line.specs.Spelled.{GiveAsSetUp, spelled}
use Rattle.uug_line.specs.StillHeld.{HoldWhatIsLeft}
use Rattle.uug_line.specs.WholeReport.{WholeReport, whole_report}
use Rattle.uug_line.specs.World.{report_of_world, run_of_ends, world}

-- the report's ends are those of the program's run, which has ended as the two ends do
pub record IsLeftBy (setup : SetupValue) (events : List Event) (report : WholeReport) : Type 0 where
  pub parts : RunValue
  pub shown : whole_report parts report.told.verdict ≡ report
  pub ends : EndsAs setup (run_of_ends setup events) report.told.verdict parts
  -- where it is clean, another event may happen
  pub steady : report.told.verdict ≡ Clean → IsSteady parts

-- of these two ends and these events the world tells this report; the spools stand in it as the ends were set up, the ends
-- hold what is left of the bytes that came, and what is on the lines is what the world has there
pub record IsRunOf (setup : SetupValue) (events : List Event) (report : WholeReport) : Type 0 where
  pub types : AreOfTypes setup events
  pub told : report.told ≡ spelled (report_of_world setup events)
  pub spools : GiveAsSetUp setup report.spools
  pub held : HoldWhatIsLeft (world setup events) report.held
  pub lines : (side : Side) → (at side report.left).line ≡ line_from side (world setup events)
  pub left : IsLeftBy setup events report

-- it is so of some two ends and some events
pub record IsOfSomeRun (report : WholeReport) : Type 0 where
  pub setup : SetupValue
  pub events : List Event
  pub is : IsRunOf setup events report
