-- What is written of a script whose run goes on until it is settled (this project's profile).
use Rattle.std.specs.Io.KnownBytes.{Keeps}
use Rattle.std.specs.Prelude.{◌≡◌, ◌⊎◌, ℕ, List, ◌++◌, Option, IfSome, Some, []}
use Rattle.uug_stream.specs.Streams.{Appends, AppendsFront}
use Rattle.uug_line.specs.declared.event.Event.{Event}
use Rattle.uug_line.specs.Belongings.{SetupValue}
use Rattle.uug_line.specs.OfSomeRun.{IsRunOf}
use Rattle.uug_line.specs.Settle.{MaySettle, Settles, events_of}
use Rattle.uug_line.specs.Spelled.{spelled}
use Rattle.uug_line.specs.WholeReport.{WholeReport}
use Rattle.uug_line.specs.World.{report_of_world, world}
use Rattle.uug_sim_script.specs.IsScript.{IsScript}
use Rattle.uug_sim_script.specs.ReportText.{RunResult, report_text}
use Rattle.uug_sim_script.specs.Script.{ScriptSays}
use Rattle.uug_sim_play.specs.declared.unsettled.Unsettled.{Unsettled}
use Rattle.uug_sim_play.specs.Numbers.{result_of, status_of_result}
use Rattle.uug_sim_play.specs.Played.{setup_said}
use Rattle.uug_sim_play.specs.Unsettled.{Fails, unsettled_line}

-- what is told of these two ends under these events
abbrev pub result_by_world : SetupValue → List Event → RunResult
result_by_world setup events = result_of (spelled (report_of_world setup events))

-- the report is of the events followed by those of the rounds in which both sessions come to their end
pub record IsBehind (setup : SetupValue) (events : List Event) (text : List ℕ) (status : ℕ) : Type 0 where
  pub settles : Settles setup events
  pub text_is : text ≡ report_text (result_by_world setup (events ++ events_of settles.rounds))
  pub status_is : status ≡ status_of_result (result_by_world setup (events ++ events_of settles.rounds))

-- The run may settle: that report follows its own, and the status is of that.
pub record HasSettled (setup : SetupValue) (events : List Event) (text : List ℕ) (status : ℕ) : Type 0 where
  pub may : MaySettle (world setup events)
  pub last : List ℕ
  pub behind : IsBehind setup events last status
  pub text_is : text ≡ report_text (result_by_world setup events) ++ last

-- It may not: which condition fails follows its report, and the status is of the report.
pub record HasNotSettled (setup : SetupValue) (events : List Event) (text : List ℕ) (status : ℕ) : Type 0 where
  pub report : WholeReport
  pub is : IsRunOf setup events report
  pub why : Unsettled
  pub fails : Fails why report
  pub text_is : text ≡ report_text (result_by_world setup events) ++ unsettled_line why
  pub status_is : status ≡ status_of_result (result_by_world setup events)

abbrev pub GoesOn : (setup : SetupValue) (events : List Event) (text : List ℕ) (status : ℕ) → Type 0
GoesOn setup events text status = HasSettled setup events text status ⊎ HasNotSettled setup events text status

-- of whatever two ends and events the report is
abbrev pub GoesOnFrom : WholeReport → (text : List ℕ) (status : ℕ) → Type 0
GoesOnFrom report text status = (setup : SetupValue) (events : List Event) → IsRunOf setup events report →
    GoesOn setup events text status

-- the text is a script, and the report is of what it says
pub record IsRunOfScript (script : List ℕ) (report : WholeReport) : Type 0 where
  pub says : ScriptSays
  pub script_is : IsScript script says
  pub is : IsRunOf (setup_said says) says.events report

-- the text is a script, and this is written of what it says, and the status
pub record IsSettled (script text : List ℕ) (status : ℕ) : Type 0 where
  pub says : ScriptSays
  pub script_is : IsScript script says
  pub goes_on : GoesOn (setup_said says) says.events text status

-- ---- as it is written to an output

abbrev pub AppendsSettled : (script : List ℕ) → (status : ℕ) → Option (List ℕ) → Option (List ℕ) → Type 0
AppendsSettled script status before after =
    (text : List ℕ) × IsSettled script text status × Appends text before after

-- a front of it was appended, or none of it
abbrev pub BeginsSettled : (script : List ℕ) → Option (List ℕ) → Option (List ℕ) → Type 0
BeginsSettled script before after =
    (text : List ℕ) × (status : ℕ) × IsSettled script text status × AppendsFront text before after

-- the same as of a script that is played
abbrev pub RunsOutSettling : (script left before after : Option (List ℕ)) → Type 0
RunsOutSettling script left before after =
    IfSome script (λ bytes. Keeps before after ⊎ ((left ≡ Some []) × BeginsSettled bytes before after))
