use Rattle.std.proofs.Common.{◌∙◌, map}
use Rattle.uug_line.specs.Shown.{session_shown, owned_by}
use Rattle.uug_sim_script.specs.ReportShown.{end_shown}
use Rattle.uug_sim_play.proofs.PlayedLemmas.{end_is, result_is, text_is}
use Rattle.uug_sim_play.proofs.played.shown.Goals as goal

pub returns-clause-text : goal.returns-clause-text
returns-clause-text g c =
    let caller = end_is (end_shown c.shown_end.result) (owned_by c.caller-caller.result.now) _ c.shown_end.ensures
    (c.deref-2.ensures.value ∙ c.in_ok-caller_holds.ensures) in
    let called = end_is (end_shown c.shown_end-2.result) (owned_by c.called-called.result.now) _ c.shown_end-2.ensures
    (c.deref-3.ensures.value ∙ c.in_ok-called_holds.ensures) in
    text_is _ _ _ _ c.new-text.ensures.bytes c.in_ok-add_report.ensures.ok
    (result_is c.args.report.now.told _ (map session_shown c.sessions.result.now) (end_shown c.shown_end.result)
    (end_shown c.shown_end-2.result) (owned_by c.caller-caller.result.now) (owned_by c.called-called.result.now) c.verdict.result
    (c.deref.ensures.value ∙ c.in_ok-sessions.ensures) c.sessions.ensures.sessions caller c.caller-caller.ensures.has called
    c.called-called.ensures.has c.verdict.ensures)
