use Rattle.std.proofs.Common.{◌∙◌, arith}
use Rattle.uug_taylor_queue.specs.Code.Parting.{first_ops}
use Rattle.uug_taylor_queue.proofs.PartingLemmas.{one_more_is_over}
use Rattle.uug_taylor_queue.proofs.settled.settle_first.Goals as goal

pub loop-count-preserved : goal.loop-count-preserved
loop-count-preserved g c = record {
  left = one_more_is_over c.args.outcome c.loop-count.count c.in-Some.line.now c.in-Some.others.now c.loop-count.rest.now
      (first_ops c.args.outcome c.args.count c.args.lines.now) (g.D.Disk.done c.loop-count.disk) (g.D.Disk.done c.settle.new.disk)
      (g.D.Disk.done c.args.disk.now) (omega (arith, c.loop-count-test.true)) c.in-Some.ensures.cases.0 c.loop-count.invariant.left
      c.in_ok-settle.ensures.ok;
  told = c.settle.ensures.told ∙ c.loop-count.invariant.told;
  calm = c.in_ok-settle.ensures.calm ∙ c.loop-count.invariant.calm;
}
