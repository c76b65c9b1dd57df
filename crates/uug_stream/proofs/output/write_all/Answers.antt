use Rattle.std.proofs.Common.{◌++◌, take, ◌∙◌}
use Rattle.uug_stream.proofs.StreamLemmas.{Appends-join, front-grows}
use Rattle.uug_stream.proofs.output.write_all.Goals as goal

pub loop-rest-preserved : goal.loop-rest-preserved
loop-rest-preserved g c = record {
  front = c.loop-rest.invariant.front ++ take c.in_ok-count.count c.loop-rest.rest.now;
  split = front-grows _ _ c.loop-rest.rest.now c.in_ok-count.count c.loop-rest.invariant.split;
  appended = Appends-join _ _ _ _ _ c.loop-rest.invariant.appended c.in_ok-count.ensures.appends;
  calm = c.in_ok-count.ensures.calm ∙ c.loop-rest.invariant.calm;
}
