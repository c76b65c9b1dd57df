use Rattle.std.proofs.Common.{sym, ◌∙◌, arith}
use Rattle.uug_link.proofs.RepeatLemmas.{length-not_selected, length-outstanding, length-selected}
use Rattle.uug_link.proofs.status.Status.emissions.Goals as goal

pub returns-in-Outstanding-clause-count : goal.returns-in-Outstanding-clause-count
returns-in-Outstanding-clause-count c = λ ms len. sym len ∙ sym (length-outstanding c.args.self c.args.emits ms c.in-Outstanding.is)

pub returns-in-Selected-clause-count : goal.returns-in-Selected-clause-count
returns-in-Selected-clause-count c = λ ms len.
    sym (length-selected c.args.self c.args.emits c.in-Selected.number c.place_of.result ms c.in-Selected.is c.place_of.ensures
    (omega (arith, c.if-place_of-outstanding.true, len)))

pub returns-in-Selected-2-clause-count : goal.returns-in-Selected-2-clause-count
returns-in-Selected-2-clause-count c = λ ms len.
    sym (length-not_selected c.args.self c.args.emits c.in-Selected.number c.place_of.result ms c.in-Selected.is c.place_of.ensures
    (omega (arith, c.if-place_of-outstanding.false, len)))
