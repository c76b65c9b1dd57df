use Rattle.std.proofs.Common.{◌≡◌, ◌∙◌, rules, sym}
use Rattle.uug_conversation.specs.declared.side.Side.TheVariants.{Caller, Called}
use Rattle.uug_line.specs.declared.verdict.LineVerdict.TheVariants.{Clean}
use Rattle.uug_line.specs.Shown.{held_at, stands_so}
use Rattle.uug_sim_play.specs.Unsettled.{called_fails, caller_fails, on_line}
use Rattle.uug_sim_play.proofs.SettledLemmas.{fails_as, is_fooled, not_empty, quiet_as}
use Rattle.uug_sim_play.proofs.unsettled.why_unsettled.Goals as goal

pub returns-in-Fooled-clause-why : goal.returns-in-Fooled-clause-why
returns-in-Fooled-clause-why g c = is_fooled c.args.report.now _ _ (sym c.verdict.ensures ∙ c.in-Fooled.is)

pub returns-in-Some-clause-why : goal.returns-in-Some-clause-why
returns-in-Some-clause-why g c =
    let report = c.args.report.now in
    let clean : report.told.verdict ≡ Clean = search rules in
    caller_fails clean
    (fails_as Caller (stands_so c.caller.result.now) report.told.ends.at_caller (held_at c.caller.result.now) report.held.at_caller
    c.in-Some.why c.caller.ensures.stands c.caller.ensures.holds c.in-Some.ensures)

pub returns-in-Some-end_unsettled-clause-why : goal.returns-in-Some-end_unsettled-clause-why
returns-in-Some-end_unsettled-clause-why g c =
    let report = c.args.report.now in
    let clean : report.told.verdict ≡ Clean = search rules in
    called_fails clean
    (quiet_as (stands_so c.caller.result.now) report.told.ends.at_caller (held_at c.caller.result.now) report.held.at_caller
    c.caller.ensures.stands c.caller.ensures.holds c.in_default-end_unsettled.ensures)
    (fails_as Called (stands_so c.called.result.now) report.told.ends.at_called (held_at c.called.result.now) report.held.at_called
    c.in-Some-end_unsettled.why c.called.ensures.stands c.called.ensures.holds c.in-Some-end_unsettled.ensures)

pub returns-clause-why : goal.returns-clause-why
returns-clause-why g c =
    let report = c.args.report.now in
    let clean : report.told.verdict ≡ Clean = search rules in
    let caller = quiet_as (stands_so c.caller.result.now) report.told.ends.at_caller (held_at c.caller.result.now) report.held.at_caller
    c.caller.ensures.stands c.caller.ensures.holds c.in_default-end_unsettled.ensures in
    let called = quiet_as (stands_so c.called.result.now) report.told.ends.at_called (held_at c.called.result.now) report.held.at_called
    c.called.ensures.stands c.called.ensures.holds c.in_default-end_unsettled-2.ensures in
    on_line clean caller called (not_empty report clean caller called (search rules))
