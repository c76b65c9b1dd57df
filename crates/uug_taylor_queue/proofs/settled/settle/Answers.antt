use Rattle.uug_taylor_queue.proofs.StopLemmas.{all_behind_copy, copy_goes_for_good, front_behind_copy}
use Rattle.uug_taylor_queue.proofs.settled.settle.Goals as goal

pub returns-in_err-settle_line-clause-behind : goal.returns-in_err-settle_line-clause-behind
returns-in_err-settle_line-clause-behind g c =
    front_behind_copy c.args.outcome c.args.line.now c.args.others.now (g.D.Disk.done c.args.disk.now) (g.D.Disk.done c.settle_line.new.disk)
    c.in_err-settle_line.ensures.err

pub returns-clause-behind : goal.returns-clause-behind
returns-clause-behind g c =
    all_behind_copy c.args.outcome c.args.line.now c.args.others.now (g.D.Disk.done c.args.disk.now) (g.D.Disk.done c.settle_line.new.disk)
    c.in_ok-settle_line.ensures.ok

pub returns-clause-gone : goal.returns-clause-gone
returns-clause-gone g c =
    copy_goes_for_good c.args.outcome c.args.line.now c.args.others.now (g.D.Disk.done c.args.disk.now) (g.D.Disk.done c.settle_line.new.disk)
    c.in_ok-settle_line.ensures.ok
