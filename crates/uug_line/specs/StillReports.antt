-- Reports that have come to rest, whether or not an end is quiet on repeats (this project's profile).
use Rattle.std.specs.Prelude.{◌≡◌, ℕ, ◌≤◌, false, List, []}
use Rattle.uug_link.specs.State.{IsUp}
use Rattle.uug_session.specs.EndStep.{linked}
use Rattle.uug_conversation.specs.declared.side.Side.{Side}
use Rattle.uug_conversation.specs.Sides.{at}
use Rattle.uug_line.specs.declared.verdict.LineVerdict.TheVariants.{Clean}
use Rattle.uug_line.specs.Belongings.{SetupValue}
use Rattle.uug_line.specs.Told.{EndNow}
use Rattle.uug_line.specs.WholeReport.{WholeReport}

-- the end talks, and has counted at most six timeouts in a row; it holds no byte, and none is on the line from it
pub record EndIsStill (now : EndNow) (held line : List ℕ) : Type 0 where
  pub on_link : now.stage ≡ linked
  pub is_up : IsUp now.link
  pub timeouts : now.link.timeouts ≤ 6
  pub holds_none : held ≡ []
  pub empty : line ≡ []

pub record IsStill (report : WholeReport) : Type 0 where
  pub clean : report.told.verdict ≡ Clean
  pub caller : EndIsStill report.told.ends.at_caller report.held.at_caller report.left.at_caller.line
  pub called : EndIsStill report.told.ends.at_called report.held.at_called report.left.at_called.line

-- neither end was set up to be quiet on repeats
abbrev pub NoneIsQuiet : SetupValue → Type 0
NoneIsQuiet setup = (side : Side) → (at side setup).own.quiet ≡ false
