use Rattle.std.proofs.Common.{◌++◌, List, ap, subst, sym}
use Rattle.uug_line.specs.declared.event.Event.{Event}
use Rattle.uug_line.specs.Belongings.{SetupValue}
use Rattle.uug_line.specs.OfSomeRun.{IsRunOf}
use Rattle.uug_line.specs.RunValue.{run_value}
use Rattle.uug_line.specs.Settle.{events_of}
use Rattle.uug_line.specs.Settled.{SettlesInto}
use Rattle.uug_line.specs.WholeReport.{WholeReport}
use Rattle.uug_line.proofs.ReportLemmas.{may_finish, settled_are_done, settles_into}
use Rattle.uug_line.proofs.settling.settle.Goals as goal

pub finish-requires : goal.finish-requires
finish-requires g c =
    let some = c.into_run-run.ensures.of_a_run in
    record {
      setup = some.setup;
      events = some.events;
      may = may_finish some.setup some.events c.args.report (run_value c.into_run-run.result) some.is c.requires
          (c.into_run-run.ensures.same some.is.left.parts some.is.left.shown);
    }

pub into_report-requires : goal.into_report-requires
into_report-requires g c =
    let some = c.into_run-run.ensures.of_a_run in
    let setup = some.setup in
    let events = some.events in
    let parts = run_value c.finish.new.self in
    let may = may_finish setup events c.args.report (run_value c.into_run-run.result) some.is c.requires
    (c.into_run-run.ensures.same some.is.left.parts some.is.left.shown) in
    let finished = c.in-Ok.ensures setup events may in
    let into = settles_into setup events parts some.is.types finished in
    record {
      some_run = record { setup = setup; events = events ++ events_of into.settles.rounds; is = into.is };
      said = record {
        caller = finished.stands.steady.at_caller.ordered.cleared;
        called = finished.stands.steady.at_called.ordered.cleared;
      };
    }

pub returns : goal.returns
returns g c =
    let some = c.into_run-run.ensures.of_a_run in
    let parts = run_value c.finish.new.self in
    let settled = c.in_ok-settled.ensures in
    let world : (setup : SetupValue) (events : List Event) → IsRunOf setup events c.args.report →
    SettlesInto setup events c.in_ok-settled.settled =
    λ setup events is.
    let may = may_finish setup events c.args.report (run_value c.into_run-run.result) is c.requires
    (c.into_run-run.ensures.same is.left.parts is.left.shown) in
    subst (λ (report : WholeReport). SettlesInto setup events report) (sym settled)
    (settles_into setup events parts is.types (c.in-Ok.ensures setup events may)) in
    record {
      ends = settled_are_done some.setup some.events c.in_ok-settled.settled (world some.setup some.events some.is);
      clean = ap (λ (report : WholeReport). report.told.verdict) settled;
      world = world;
    }
