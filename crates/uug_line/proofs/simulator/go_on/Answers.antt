use Rattle.std.proofs.Common.{◌≡◌, ◌∙◌, ◌∷◌, [], ◌++◌, rules, subst, sym}
use Rattle.uug_line.specs.declared.verdict.LineVerdict.{LineVerdict}
use Rattle.uug_line.specs.declared.verdict.LineVerdict.TheVariants.{Clean}
use Rattle.uug_line.specs.OfSomeRun.{IsRunOf}
use Rattle.uug_line.specs.RunValue.{IsSteady, RunValue, run_value}
use Rattle.uug_line.specs.WholeReport.{WholeReport, whole_report}
use Rattle.uug_line.proofs.SimulatorLemmas.{has_stopped, one_more_event}
use Rattle.uug_line.proofs.simulator.go_on.Goals as goal

pub returns-in-Fooled : goal.returns-in-Fooled
returns-in-Fooled g c = λ setup events behind.
    has_stopped setup events c.args.event c.args.report _ _ behind.is (sym c.verdict.ensures ∙ c.in-Fooled.is) c.look_at_event.ensures

pub happens-requires : goal.happens-requires
happens-requires g c =
    let left = c.requires.is.is.left in
    let clean : c.args.report.told.verdict ≡ Clean = search rules in
    subst (λ (r : RunValue). IsSteady r) (sym (c.into_run-run.ensures.same left.parts left.shown)) (left.steady clean)

pub into_report-requires-clause-some_run : goal.into_report-requires-clause-some_run
into_report-requires-clause-some_run g c =
    let some = c.requires in
    let left = some.is.is.left in
    let clean : c.args.report.told.verdict ≡ Clean = search rules in
    let next = one_more_event some.setup some.events c.args.event c.args.report c.args.number c.in-Ok.all_sent
    (run_value c.into_run-run.result) (run_value c.happens.new.self) some.is clean (c.into_run-run.ensures.same left.parts left.shown)
    c.look_at_event.ensures c.in-Ok.ensures in
    record {
      setup = some.setup;
      events = some.events ++ c.args.event ∷ [];
      is = subst (λ (verdict : LineVerdict). IsRunOf some.setup (some.events ++ c.args.event ∷ []) (whole_report (run_value c.happens.new.self) verdict))
          (sym c.verdict_behind.ensures) next.is;
    }

pub into_report-requires-clause-said : goal.into_report-requires-clause-said
into_report-requires-clause-said g c =
    let some = c.requires in
    let left = some.is.is.left in
    let clean : c.args.report.told.verdict ≡ Clean = search rules in
    (one_more_event some.setup some.events c.args.event c.args.report c.args.number c.in-Ok.all_sent
    (run_value c.into_run-run.result) (run_value c.happens.new.self) some.is clean (c.into_run-run.ensures.same left.parts left.shown)
    c.look_at_event.ensures c.in-Ok.ensures).said

pub returns : goal.returns
returns g c = λ setup events behind.
    let left = behind.is.left in
    let clean : c.args.report.told.verdict ≡ Clean = search rules in
    let next = one_more_event setup events c.args.event c.args.report c.args.number c.in-Ok.all_sent
    (run_value c.into_run-run.result) (run_value c.happens.new.self) behind clean (c.into_run-run.ensures.same left.parts left.shown)
    c.look_at_event.ensures c.in-Ok.ensures in
    subst (λ (report : WholeReport). IsRunOf setup (events ++ c.args.event ∷ []) report) (sym c.in_ok-next.ensures)
    (subst (λ (verdict : LineVerdict). IsRunOf setup (events ++ c.args.event ∷ []) (whole_report (run_value c.happens.new.self) verdict))
    (sym c.verdict_behind.ensures) next.is)
