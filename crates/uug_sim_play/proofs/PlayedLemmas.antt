-- What is shown of a report, and of a script that was played.
use Rattle.std.proofs.Common.{◌≡◌, ℕ, List, [], ◌++◌, map, ap, ◌∙◌, subst}
use Rattle.uug_line.specs.declared.event.Event.{Event}
use Rattle.uug_line.specs.declared.verdict.LineVerdict.{LineVerdict}
use Rattle.uug_line.specs.Belongings.{Belongings}
use Rattle.uug_conversation.specs.Sides.{AtBoth}
use Rattle.uug_conversation.specs.declared.side.Side.TheVariants.{Caller, Called}
use Rattle.uug_conversation.specs.Holdings.{Holdings}
use Rattle.uug_line.specs.OfSomeRun.{IsRunOf}
use Rattle.uug_line.specs.Told.{SpelledEnd, SpelledReport}
use Rattle.uug_line.specs.Spelled.{spelled}
use Rattle.uug_line.specs.WholeReport.{WholeReport}
use Rattle.uug_line.specs.World.{report_of_world}
use Rattle.uug_sim_script.specs.declared.report.HeldFile.{HeldFile}
use Rattle.uug_sim_script.specs.declared.report.SessionNumbers.{SessionNumbers}
use Rattle.uug_sim_script.specs.IsScript.{IsScript}
use Rattle.uug_sim_script.specs.ReportText.{EndResult, RunResult, report_text}
use Rattle.uug_sim_script.specs.Script.{ScriptSays}
use Rattle.uug_sim_play.specs.Numbers.{session_numbers, held_files, end_result, result_of, status_of_result}
use Rattle.uug_sim_play.specs.Played.{setup_said, holdings_said, IsPlayed, IsPlayedVerbosely}
use Rattle.uug_sim_play.specs.Reasons.{given_by, holdings_in, reasons_text}
use Rattle.uug_sim_play.specs.Settled.{IsRunOfScript}

abbrev pub result_by : List SessionNumbers → EndResult → EndResult → LineVerdict → RunResult
result_by sessions caller called verdict =
    record { sessions = sessions; caller = caller; called = called; verdict = verdict }

-- an end's part, where what is shown as held is what it holds
pub end_is : (shown : EndResult) (has : Belongings) (held : List HeldFile) → shown ≡ record (end_result has) { held = held } →
    held ≡ held_files has.partials → shown ≡ end_result has
end_is shown has held is h = is ∙ ap (λ (x : List HeldFile). record (end_result has) { held = x }) h

-- each part of what is shown comes from the report
pub result_is : (report : SpelledReport) (sessions : List SessionNumbers) (told : List (AtBoth SpelledEnd))
    (caller called : EndResult) (caller_has called_has : Belongings) (verdict : LineVerdict) →
    sessions ≡ map session_numbers told → told ≡ report.sessions →
    caller ≡ end_result caller_has → caller_has ≡ report.belongings.at_caller →
    called ≡ end_result called_has → called_has ≡ report.belongings.at_called →
    verdict ≡ report.verdict →
    result_by sessions caller called verdict ≡ result_of report
result_is report sessions told caller called caller_has called_has verdict s t p b q d v =
    ap (λ x. result_by x caller called verdict) (s ∙ ap (map session_numbers) t)
    ∙ ap (λ x. result_by (map session_numbers report.sessions) x called verdict) (p ∙ ap end_result b)
    ∙ ap (λ x. result_by (map session_numbers report.sessions) (end_result report.belongings.at_caller) x verdict) (q ∙ ap end_result d)
    ∙ ap (λ x. result_by (map session_numbers report.sessions) (end_result report.belongings.at_caller)
    (end_result report.belongings.at_called) x) v

-- the text of a report, where nothing stood before
pub text_is : (before after : List ℕ) (result other : RunResult) → before ≡ [] → after ≡ before ++ report_text result →
    result ≡ other → after ≡ report_text other
text_is before after result other none added same = added ∙ ap (λ t. t ++ report_text result) none ∙ ap report_text same

-- the report is of what the script says
pub plays : (script text : List ℕ) (status : ℕ) (report : WholeReport) → IsRunOfScript script report →
    text ≡ report_text (result_of report.told) → status ≡ status_of_result (result_of report.told) →
    IsPlayed script text status
plays script text status report run t s = record {
  says = run.says;
  script_is = run.script_is;
  text_is = t ∙ ap (λ r. report_text (result_of r)) run.is.told;
  status_is = s ∙ ap (λ r. status_of_result (result_of r)) run.is.told;
}

abbrev both_holdings : Holdings → Holdings → AtBoth Holdings
both_holdings caller called = record { at_caller = caller; at_called = called }

-- the spools of the report give and accept what the script says
holdings_are : (report : WholeReport) (script : List ℕ) (run : IsRunOfScript script report) → holdings_in report.spools ≡ holdings_said run.says
holdings_are report script run =
    ap (λ h. both_holdings h (given_by report.spools.at_called)) (run.is.spools Caller)
    ∙ ap (λ h. both_holdings (given_by run.says.caller.held) h) (run.is.spools Called)

-- so the reasons are of what the script says, too
pub plays_with_reasons : (script text reasons : List ℕ) (status : ℕ) (report : WholeReport) → IsRunOfScript script report →
    text ≡ report_text (result_of report.told) → reasons ≡ reasons_text report.told (holdings_in report.spools) →
    status ≡ status_of_result (result_of report.told) → IsPlayedVerbosely script text reasons status
plays_with_reasons script text reasons status report run t r s = record {
  says = run.says;
  script_is = run.script_is;
  text_is = t ∙ ap (λ x. report_text (result_of x)) run.is.told;
  reasons_are = r ∙ ap (λ x. reasons_text x (holdings_in report.spools)) run.is.told
      ∙ ap (reasons_text (spelled (report_of_world (setup_said run.says) run.says.events))) (holdings_are report script run);
  status_is = s ∙ ap (λ x. status_of_result (result_of x)) run.is.told;
}

-- what is played verbosely is played: the report and the status are the same
pub plays_verbosely : (script text reasons : List ℕ) (status : ℕ) → IsPlayedVerbosely script text reasons status →
    IsPlayed script text status
plays_verbosely script text reasons status played = record {
  says = played.says;
  script_is = played.script_is;
  text_is = played.text_is;
  status_is = played.status_is;
}

-- the run is of the set-up and the events that the script says
pub runs : (script : List ℕ) (says : ScriptSays) (events : List Event) (report : WholeReport) →
    IsScript script says → events ≡ says.events → IsRunOf (setup_said says) events report → IsRunOfScript script report
runs script says events report script_is events_are is = record {
  says = says;
  script_is = script_is;
  is = subst (λ (es : List Event). IsRunOf (setup_said says) es report) events_are is;
}
