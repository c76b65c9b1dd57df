-- Which reports may settle, and what they settle to (this project's profile).
use Rattle.std.specs.Prelude.{◌≡◌, ℕ, ◌≤◌, List, [], ◌++◌}
use Rattle.uug_link.specs.State.{IsPlain, IsUp}
use Rattle.uug_session.specs.declared.end.End.TheVariants.{Done}
use Rattle.uug_session.specs.EndStep.{ended, linked}
use Rattle.uug_line.specs.declared.event.Event.{Event}
use Rattle.uug_conversation.specs.declared.side.Side.{Side}
use Rattle.uug_line.specs.declared.verdict.LineVerdict.TheVariants.{Clean}
use Rattle.uug_line.specs.Belongings.{SetupValue}
use Rattle.uug_line.specs.OfSomeRun.{IsRunOf}
use Rattle.uug_line.specs.Settle.{Settles, events_of}
use Rattle.uug_conversation.specs.Sides.{at}
use Rattle.uug_line.specs.Told.{EndNow, SpelledReport}
use Rattle.uug_line.specs.WholeReport.{WholeReport}

-- The end talks, is not quiet on repeats, and has counted at most six timeouts in a row; it holds no byte, and none is on the
-- line from it.
pub record EndCanSettle (now : EndNow) (held line : List ℕ) : Type 0 where
  pub on_link : now.stage ≡ linked
  pub is_up : IsUp now.link
  pub plain : IsPlain now.link
  pub timeouts : now.link.timeouts ≤ 6
  pub holds_none : held ≡ []
  pub empty : line ≡ []

pub record CanSettle (report : WholeReport) : Type 0 where
  pub clean : report.told.verdict ≡ Clean
  pub caller : EndCanSettle report.told.ends.at_caller report.held.at_caller report.left.at_caller.line
  pub called : EndCanSettle report.told.ends.at_called report.held.at_called report.left.at_called.line

-- both sessions are over, and well
abbrev pub AreDone : SpelledReport → Type 0
AreDone told = (side : Side) → (at side told.ends).stage ≡ ended Done

-- rounds behind these events have led to this report
pub record SettlesInto (setup : SetupValue) (events : List Event) (report : WholeReport) : Type 0 where
  pub settles : Settles setup events
  pub is : IsRunOf setup (events ++ events_of settles.rounds) report
