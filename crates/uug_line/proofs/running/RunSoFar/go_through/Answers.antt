use Rattle.uug_line.specs.RunValue.{run_value}
use Rattle.uug_line.proofs.RunLemmas.{next_fools, next_runs, none_left, runs_from_start, runs_to_end}
use Rattle.uug_line.proofs.running.RunSoFar.go_through.Goals as goal

pub loop-number-init : goal.loop-number-init
loop-number-init g c = record {
  steady = c.requires;
  runs = λ setup run stands. runs_from_start c.args.events.now setup run (run_value c.args.self.now) stands;
}

pub loop-number-preserved : goal.loop-number-preserved
loop-number-preserved g c =
    let next =
    next_runs c.args.events.now c.loop-number.number _ c.in_ok-happens.field-0 (run_value c.loop-number.self) (run_value c.happens.new.self)
    c.loop-number-test.true c.if-not-branch.false c.in_ok-happens.ensures c.loop-number.invariant.steady in
    record {
      steady = next.0;
      runs = λ setup run stands. next.1 setup run (c.loop-number.invariant.runs setup run stands);
    }

pub returns-clause-ends : goal.returns-clause-ends
returns-clause-ends g c = λ setup run stands.
    runs_to_end c.args.events.now c.loop-number.number setup run (run_value c.loop-number.self)
    (none_left c.args.events.now c.loop-number.number c.loop-number-test.false) (c.loop-number.invariant.runs setup run stands)

pub returns-then-not-branch-clause-ends : goal.returns-then-not-branch-clause-ends
returns-then-not-branch-clause-ends g c = λ setup run stands.
    next_fools c.args.events.now c.loop-number.number _ c.in_ok-happens.field-0 c.hearing_side.result (run_value c.loop-number.self)
    (run_value c.happens.new.self) c.loop-number-test.true c.if-not-branch.true c.hearing_side.ensures c.in_ok-happens.ensures
    setup run (c.loop-number.invariant.runs setup run stands)
