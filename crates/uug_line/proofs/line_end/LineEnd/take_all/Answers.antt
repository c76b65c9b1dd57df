use Rattle.std.proofs.Common.{subst}
use Rattle.uug_line.specs.declared.line_end.Taking.{Taking}
use Rattle.uug_line.specs.LineEndValue.{TakesNext, live_end_value}
use Rattle.uug_line.specs.Shown.{lists_in}
use Rattle.uug_line.proofs.PieceLemmas.{still_takes, then_all, then_stopped}
use Rattle.uug_line.proofs.line_end.LineEnd.take_all.Goals as goal

pub loop-preserved : goal.loop-preserved
loop-preserved g c =
    let others = lists_in c.args.others.now in
    let new = live_end_value c.take_next.new.self in
    still_takes others (live_end_value c.args.self.now) (live_end_value c.loop.self) new c.loop.invariant
    (subst (λ (t : Taking). TakesNext t others (live_end_value c.loop.self) new) c.in-Goes.is c.in_ok-take_next.ensures)

pub returns-in-Waits : goal.returns-in-Waits
returns-in-Waits g c =
    let others = lists_in c.args.others.now in
    let new = live_end_value c.take_next.new.self in
    then_all others (live_end_value c.args.self.now) (live_end_value c.loop.self) new c.loop.invariant
    (subst (λ (t : Taking). TakesNext t others (live_end_value c.loop.self) new) c.in-Waits.is c.in_ok-take_next.ensures)

pub returns-in-Stops : goal.returns-in-Stops
returns-in-Stops g c =
    let others = lists_in c.args.others.now in
    let new = live_end_value c.take_next.new.self in
    then_stopped others (live_end_value c.args.self.now) (live_end_value c.loop.self) new c.loop.invariant
    (subst (λ (t : Taking). TakesNext t others (live_end_value c.loop.self) new) c.in-Stops.is c.in_ok-take_next.ensures)
