use Rattle.uug_line.specs.Setup.{setup_of}
use Rattle.uug_sim_ladder.specs.Code.Progress.{progress_shown}
use Rattle.uug_sim_ladder.proofs.FrontLemmas.{ladder_whole, run_whole, stands_first, stands_next}
use Rattle.uug_sim_ladder.proofs.drawn_run.draw_events.Goals as goal

pub loop-number-init : goal.loop-number-init
loop-number-init g c =
    stands_first (setup_of c.args.setup) c.args.events.now c.in_ok-progress.progress.run (progress_shown c.in_ok-progress.progress)
    c.in_ok-progress.ensures.run c.in_ok-progress.ensures.drawn

pub loop-number-preserved : goal.loop-number-preserved
loop-number-preserved g c =
    stands_next (setup_of c.args.setup) c.args.events.now c.loop-number.number _ c.loop-number.progress.run c.advance.new.self.run
    (progress_shown c.loop-number.progress) (progress_shown c.advance.new.self) c.loop-number-test.true c.loop-number.invariant
    c.in_ok-advance.ensures.run c.in_ok-advance.ensures.drawn

pub returns-clause-drawn : goal.returns-clause-drawn
returns-clause-drawn g c =
    ladder_whole (setup_of c.args.setup) c.args.events.now c.loop-number.number c.loop-number.progress.run
    (progress_shown c.loop-number.progress) c.loop-number-test.false c.loop-number.invariant

pub returns-clause-run : goal.returns-clause-run
returns-clause-run g c =
    run_whole (setup_of c.args.setup) c.args.events.now c.loop-number.number c.loop-number.progress.run
    (progress_shown c.loop-number.progress) c.into_report.result c.in-Some.report c.loop-number-test.false c.into_report.ensures
    c.in-Some.is c.loop-number.invariant
