-- What is written of a run that goes on until it is settled, or why it does not.
use Rattle.std.proofs.Common.{◌≡◌, ℕ, List, [], ◌++◌, Option, Some, None, IfSome, ap, ◌∙◌, subst, sym, inl, inr}
use Rattle.uug_line.specs.declared.event.Event.{Event}
use Rattle.uug_conversation.specs.declared.side.Side.{Side}
use Rattle.uug_conversation.specs.declared.side.Side.TheVariants.{Caller, Called}
use Rattle.uug_line.specs.declared.verdict.LineVerdict.TheVariants.{Clean}
use Rattle.uug_line.specs.declared.verdict.LineVerdict.TheVariants as verdicts
use Rattle.uug_line.specs.Belongings.{SetupValue}
use Rattle.uug_line.specs.OfSomeRun.{IsRunOf}
use Rattle.uug_line.specs.Settled.{CanSettle, SettlesInto}
use Rattle.uug_conversation.specs.Sides.{at}
use Rattle.uug_line.specs.Told.{EndNow}
use Rattle.uug_line.specs.WholeReport.{WholeReport}
use Rattle.uug_line.specs.Settle.{MaySettle}
use Rattle.uug_line.specs.World.{world}
use Rattle.uug_sim_script.specs.ReportText.{report_text}
use Rattle.uug_stream.specs.Streams.{AppendsFront}
use Rattle.uug_sim_play.specs.declared.unsettled.Unsettled.{Unsettled}
use Rattle.uug_sim_play.specs.declared.unsettled.Unsettled.TheVariants.{Fooled}
use Rattle.uug_sim_play.specs.Numbers.{result_of, status_of_result}
use Rattle.uug_sim_play.specs.Settled.{BeginsSettled, GoesOnFrom, IsBehind, IsRunOfScript, IsSettled, RunsOutSettling}
use Rattle.uug_sim_play.specs.Unsettled.{EndFails, Fails, IsQuietEnd, fooled, unsettled_line}
use Rattle.uug_sim_play.specs.Whole.{BringsAll}

-- where the verdict and both ends are right, but the report may not settle, something is on the line
pub not_empty : (report : WholeReport) → report.told.verdict ≡ Clean →
    IsQuietEnd report.told.ends.at_caller report.held.at_caller → IsQuietEnd report.told.ends.at_called report.held.at_called →
    (CanSettle report → ⊥) → ((side : Side) → (at side report.left).line ≡ []) → ⊥
not_empty report clean caller called cannot empty = cannot (record {
  clean = clean;
  caller = record {
    on_link = caller.on_link;
    is_up = caller.is_up;
    plain = caller.plain;
    timeouts = caller.timeouts;
    holds_none = caller.holds_none;
    empty = empty Caller;
  };
  called = record {
    on_link = called.on_link;
    is_up = called.is_up;
    plain = called.plain;
    timeouts = called.timeouts;
    holds_none = called.holds_none;
    empty = empty Called;
  };
})

pub quiet_as : (before now : EndNow) (bytes held : List ℕ) → before ≡ now → bytes ≡ held → IsQuietEnd before bytes → IsQuietEnd now held
quiet_as before now bytes held same kept quiet =
    subst (λ (x : EndNow). IsQuietEnd x held) same (subst (λ (y : List ℕ). IsQuietEnd before y) kept quiet)

pub fails_as : (side : Side) (before now : EndNow) (bytes held : List ℕ) (why : Unsettled) → before ≡ now → bytes ≡ held
    → EndFails side before bytes why → EndFails side now held why
fails_as side before now bytes held why same kept fails =
    subst (λ (x : EndNow). EndFails side x held why) same (subst (λ (y : List ℕ). EndFails side before y why) kept fails)

pub is_fooled : (report : WholeReport) (event : ℕ) (side : Side) → report.told.verdict ≡ verdicts.Fooled event side → Fails Fooled report
is_fooled report event side is = fooled (λ clean. absurd (let never : verdicts.Fooled event side ≡ Clean = sym is ∙ clean in cc))

-- what the report settles to is told behind it
pub is_behind : (setup : SetupValue) (events : List Event) (text : List ℕ) (status : ℕ) (report : WholeReport) →
    SettlesInto setup events report → text ≡ report_text (result_of report.told) → status ≡ status_of_result (result_of report.told) →
    IsBehind setup events text status
is_behind setup events text status report into t s = record {
  settles = into.settles;
  text_is = t ∙ ap (λ r. report_text (result_of r)) into.is.told;
  status_is = s ∙ ap (λ r. status_of_result (result_of r)) into.is.told;
}

pub has_settled : (report : WholeReport) (first last text : List ℕ) (status : ℕ) →
    ((setup : SetupValue) (events : List Event) → IsRunOf setup events report → MaySettle (world setup events)) →
    first ≡ report_text (result_of report.told) → text ≡ first ++ last →
    ((setup : SetupValue) (events : List Event) → IsRunOf setup events report → IsBehind setup events last status) →
    GoesOnFrom report text status
has_settled report first last text status may f t behind setup events is = inl (record {
  may = may setup events is;
  last = last;
  behind = behind setup events is;
  text_is = t ∙ ap (λ x. x ++ last) (f ∙ ap (λ r. report_text (result_of r)) is.told);
})

pub has_not_settled : (report : WholeReport) (first text : List ℕ) (status : ℕ) (why : Unsettled) → Fails why report →
    first ≡ report_text (result_of report.told) → status ≡ status_of_result (result_of report.told) →
    text ≡ first ++ unsettled_line why → GoesOnFrom report text status
has_not_settled report first text status why fails f s t setup events is = inr (record {
  report = report;
  is = is;
  why = why;
  fails = fails;
  text_is = t ∙ ap (λ x. x ++ unsettled_line why) (f ∙ ap (λ r. report_text (result_of r)) is.told);
  status_is = s ∙ ap (λ r. status_of_result (result_of r)) is.told;
})

pub settles : (script text : List ℕ) (status : ℕ) (report : WholeReport) → IsRunOfScript script report → GoesOnFrom report text status →
    IsSettled script text status
settles script text status report run from =
    record { says = run.says; script_is = run.script_is; goes_on = from _ _ run.is }

-- ---- it is begun

pub begins_settled : (bytes text : List ℕ) (status : ℕ) (first left before after : Option (List ℕ)) → BringsAll bytes first left →
    IsSettled bytes text status → AppendsFront text before after → IfSome first (λ script. BeginsSettled script before after)
begins_settled bytes text status None left before after h settled front = tt
begins_settled bytes text status (Some all) left before after h settled front =
    (text, status, subst (λ b. IsSettled b text status) (sym h.0) settled, front)

pub runs_out_settling : (bytes text : List ℕ) (status : ℕ) (first left before after : Option (List ℕ)) → BringsAll bytes first left →
    IsSettled bytes text status → AppendsFront text before after → RunsOutSettling first left before after
runs_out_settling bytes text status None left before after h settled front = tt
runs_out_settling bytes text status (Some all) left before after h settled front =
    inr (h.1, begins_settled bytes text status (Some all) left before after h settled front)
