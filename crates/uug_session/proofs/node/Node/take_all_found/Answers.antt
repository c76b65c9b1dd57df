use Rattle.std.proofs.Common.{[], arith, refl, subst, ◌∙◌}
use Rattle.uug_session.specs.Engine.{faults_max}
use Rattle.uug_session.specs.Node.{node_of}
use Rattle.uug_session.specs.NodeCalls.{IsMadeOfCalls, beside}
use Rattle.uug_session.proofs.MadeLemmas.{made_of_both, made_of_none}
use Rattle.uug_session.proofs.CourseLemmas.{goes_further, stays}
use Rattle.uug_session.proofs.node.Node.take_all_found.Goals as goal

pub loop-init : goal.loop-init
loop-init g c = record {
  made = made_of_none (g.S.Spool.holdings c.args.self.now.spool) faults_max
      (beside (node_of c.args.self.now) (g.S.Spool.kept c.args.self.now.spool) (g.S.Spool.faults c.args.self.now.spool));
  goes_on = stays (g.S.Spool.holdings c.args.self.now.spool) (g.S.Spool.kept c.args.self.now.spool) _ (node_of c.args.self.now);
  says = λ says. says;
  holdings = refl;
  count = omega arith;
}

pub returns-in_err-take_next-clause-goes_on : goal.returns-in_err-take_next-clause-goes_on
returns-in_err-take_next-clause-goes_on g c =
    let old = c.args.self.now in
    let at = c.loop.self in
    let new = c.take_next.new.self in
    goes_further (g.S.Spool.holdings old.spool) (g.S.Spool.holdings at.spool) (g.S.Spool.kept old.spool) (g.S.Spool.kept at.spool) (g.S.Spool.kept new.spool)
    faults_max (g.S.Spool.faults old.spool) (g.S.Spool.faults at.spool) (g.S.Spool.faults new.spool) [] [] (node_of old) (node_of at) (node_of new)
    c.loop.invariant.holdings c.loop.invariant.count c.take_next.ensures.count c.loop.invariant.goes_on c.take_next.ensures.goes_on

pub loop-preserved : goal.loop-preserved
loop-preserved g c =
    let old = c.args.self.now in
    let at = c.loop.self in
    let new = c.take_next.new.self in
    let first = beside (node_of old) (g.S.Spool.kept old.spool) (g.S.Spool.faults old.spool) in
    let middle = beside (node_of at) (g.S.Spool.kept at.spool) (g.S.Spool.faults at.spool) in
    let last = beside (node_of new) (g.S.Spool.kept new.spool) (g.S.Spool.faults new.spool) in
    record {
      made = made_of_both (g.S.Spool.holdings old.spool) faults_max [] [] first middle last c.loop.invariant.made
          (subst (λ h. IsMadeOfCalls h faults_max [] middle last) c.loop.invariant.holdings c.take_next.ensures.made);
      goes_on = goes_further (g.S.Spool.holdings old.spool) (g.S.Spool.holdings at.spool) (g.S.Spool.kept old.spool) (g.S.Spool.kept at.spool) (g.S.Spool.kept new.spool)
          faults_max (g.S.Spool.faults old.spool) (g.S.Spool.faults at.spool) (g.S.Spool.faults new.spool) [] [] (node_of old) (node_of at) (node_of new)
          c.loop.invariant.holdings c.loop.invariant.count c.take_next.ensures.count c.loop.invariant.goes_on c.take_next.ensures.goes_on;
      says = λ says. c.take_next.ensures.says (c.loop.invariant.says says);
      holdings = c.take_next.ensures.holdings ∙ c.loop.invariant.holdings;
      count = omega (arith, c.loop.invariant.count, c.take_next.ensures.count);
    }

pub returns-clause-goes_on : goal.returns-clause-goes_on
returns-clause-goes_on g c =
    let old = c.args.self.now in
    let at = c.loop.self in
    let new = c.take_next.new.self in
    goes_further (g.S.Spool.holdings old.spool) (g.S.Spool.holdings at.spool) (g.S.Spool.kept old.spool) (g.S.Spool.kept at.spool) (g.S.Spool.kept new.spool)
    faults_max (g.S.Spool.faults old.spool) (g.S.Spool.faults at.spool) (g.S.Spool.faults new.spool) [] [] (node_of old) (node_of at) (node_of new)
    c.loop.invariant.holdings c.loop.invariant.count c.take_next.ensures.count c.loop.invariant.goes_on c.take_next.ensures.goes_on

pub returns-in_err-take_next-clause-made : goal.returns-in_err-take_next-clause-made
returns-in_err-take_next-clause-made g c =
    let old = c.args.self.now in
    let at = c.loop.self in
    let new = c.take_next.new.self in
    let first = beside (node_of old) (g.S.Spool.kept old.spool) (g.S.Spool.faults old.spool) in
    let middle = beside (node_of at) (g.S.Spool.kept at.spool) (g.S.Spool.faults at.spool) in
    let last = beside (node_of new) (g.S.Spool.kept new.spool) (g.S.Spool.faults new.spool) in
    made_of_both (g.S.Spool.holdings old.spool) faults_max [] [] first middle last c.loop.invariant.made
    (subst (λ h. IsMadeOfCalls h faults_max [] middle last) c.loop.invariant.holdings c.take_next.ensures.made)

pub returns-clause-made : goal.returns-clause-made
returns-clause-made g c =
    let old = c.args.self.now in
    let at = c.loop.self in
    let new = c.take_next.new.self in
    let first = beside (node_of old) (g.S.Spool.kept old.spool) (g.S.Spool.faults old.spool) in
    let middle = beside (node_of at) (g.S.Spool.kept at.spool) (g.S.Spool.faults at.spool) in
    let last = beside (node_of new) (g.S.Spool.kept new.spool) (g.S.Spool.faults new.spool) in
    made_of_both (g.S.Spool.holdings old.spool) faults_max [] [] first middle last c.loop.invariant.made
    (subst (λ h. IsMadeOfCalls h faults_max [] middle last) c.loop.invariant.holdings c.take_next.ensures.made)
