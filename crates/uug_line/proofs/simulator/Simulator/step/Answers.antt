use Rattle.std.proofs.Common.{◌≡◌, ◌+◌, rules}
use Rattle.uug_line.proofs.SimulatorLemmas.{one_more_kept, some_kept, steps_kept}
use Rattle.uug_line.proofs.simulator.Simulator.step.Goals as goal

pub go_on-requires : goal.go_on-requires
go_on-requires g c =
    some_kept c.self.inside.report c.take.result c.self.inside.count c.in-Some.before c.take.ensures.value c.in-Some.is c.self.invariant

pub invariant_of-self-2 : goal.invariant_of-self-2
invariant_of-self-2 g c =
    let more : c.in-Some-checked_add.more ≡ c.self.inside.count + 1 = search rules in
    one_more_kept c.args.event c.self.inside.count c.in-Some-checked_add.more c.in-Some.before c.in_ok-after.after more c.in_ok-after.ensures
    (some_kept c.self.inside.report c.take.result c.self.inside.count c.in-Some.before c.take.ensures.value c.in-Some.is c.self.invariant)

pub returns-clause-happens : goal.returns-clause-happens
returns-clause-happens g c =
    let more : c.in-Some-checked_add.more ≡ c.self.inside.count + 1 = search rules in
    steps_kept c.args.event c.self.inside.count c.in-Some-checked_add.more c.in-Some.before c.in_ok-after.after more c.in_ok-after.ensures
    c.args.self.now c.self.inside.report c.take.result c.self.view_is c.take.ensures.value c.in-Some.is
