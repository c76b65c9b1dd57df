use Rattle.std.proofs.Common.{arith, rules, subst, ◌∙◌}
use Rattle.uug_sim_play.specs.Whole.{Brings}
use Rattle.uug_sim_play.proofs.WholeLemmas.{brings_more, brings_all, brings_some}
use Rattle.uug_sim_play.proofs.whole.read_whole.Goals as goal

pub returns-then-count-eq0-clause-whole : goal.returns-then-count-eq0-clause-whole
returns-then-count-eq0-clause-whole g c =
    brings_all c.in_ok-count.count c.loop.bytes.items c.read.new.buffer _ _ _ c.if-count-eq0.true c.loop.invariant.progress c.in_ok-count.ensures.moves

pub loop-preserved : goal.loop-preserved
loop-preserved g c = record {
  progress = subst (λ bytes. Brings bytes (g.I.Input.to_come c.args.input.now) (g.I.Input.to_come c.read.new.self)) (search rules)
      (brings_more c.in_ok-count.count c.loop.bytes.items c.read.new.buffer _ _ _ c.loop.invariant.progress c.in_ok-count.ensures.moves);
  read = search rules;
  within = search rules;
  calm = c.in_ok-count.ensures.calm ∙ c.loop.invariant.calm;
}

pub returns-clause-device : goal.returns-clause-device
returns-clause-device g c told =
    brings_some c.args.limit c.loop.bytes.items _ _ c.loop.invariant.progress (omega (arith, c.loop.invariant.read, c.loop.auto.counter-end, c.loop-test.false))
