use Rattle.std.proofs.Common.{rules}
use Rattle.uug_sim_ladder.proofs.WayLemmas.{rest_more}
use Rattle.uug_sim_ladder.proofs.way.add_rest.Goals as goal

pub loop-i-preserved : goal.loop-i-preserved
loop-i-preserved g c =
    rest_more c.args.place c.loop-i.i c.args.bytes.now c.loop-i.way.items c.push.new.self.items _ c.loop-i-test.true
    (search rules) c.loop-i.invariant
