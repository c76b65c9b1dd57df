use Rattle.uug_transfer.specs.BufferedNodes.{node_in}
use Rattle.uug_transfer.specs.Ends.{jobs_of_end}
use Rattle.uug_session.specs.Node.{NodeState}
use Rattle.std.proofs.Common.{ap, length, subst, sym, ◌≤◌, ◌∙◌}
use Rattle.uug_transfer.proofs.SessionLemmas.{calm_unsettled, handed_on, settles_refused}
use Rattle.uug_transfer.proofs.SettlingLemmas.{either_then, failed_room, led_goes_on, or_not, stays_by, struck_room, tells_by, unless_settled}
use Rattle.uug_transfer.proofs.session.take_and_settle.Goals as goal

pub put_on_disk-on_disk-requires-clause-struck : goal.put_on_disk-on_disk-requires-clause-struck
put_on_disk-on_disk-requires-clause-struck g c =
    subst (λ (n : NodeState). c.args.settled.now.struck ≤ length (jobs_of_end n).struck) (sym c.node.ensures)
    (struck_room c.args.settled.now _ _ c.requires.on_disk.jobs (led_goes_on _ _ _ _ _ c.take_outcome-taken.ensures.led.events))

pub put_on_disk-on_disk-requires-clause-failed : goal.put_on_disk-on_disk-requires-clause-failed
put_on_disk-on_disk-requires-clause-failed g c =
    subst (λ (n : NodeState). c.args.settled.now.failed ≤ length (jobs_of_end n).failed) (sym c.node.ensures)
    (failed_room c.args.settled.now _ _ c.requires.on_disk.jobs (led_goes_on _ _ _ _ _ c.take_outcome-taken.ensures.led.events))

pub returns-in_err-taken-clause-settles : goal.returns-in_err-taken-clause-settles
returns-in_err-taken-clause-settles g c =
    settles_refused _ _ _ _ _ (handed_on _ _ c.from_residual.ensures)
    (either_then c.args.settled.now (node_in c.args.buffered.now) (node_in c.take_outcome-taken.new.buffered) _ _ _
    c.node.ensures c.requires.on_disk.jobs (led_goes_on _ _ _ _ _ c.take_outcome-taken.ensures.led.events)
    (or_not _ _ _ _ _ _ c.put_on_disk-on_disk.ensures.either))

pub returns-clause-settles : goal.returns-clause-settles
returns-clause-settles g c = record {
  stays = unless_settled c.put_on_disk-on_disk.result _ _ c.put_on_disk-on_disk.ensures.ok
      (λ is. stays_by c.args.settled.now (node_in c.args.buffered.now) (node_in c.take_outcome-taken.new.buffered) _ _ _ c.node.ensures
      c.requires.on_disk.jobs (led_goes_on _ _ _ _ _ c.take_outcome-taken.ensures.led.events) is);
  none_lost = either_then c.args.settled.now (node_in c.args.buffered.now) (node_in c.take_outcome-taken.new.buffered) _ _ _
      c.node.ensures c.requires.on_disk.jobs (led_goes_on _ _ _ _ _ c.take_outcome-taken.ensures.led.events)
      (or_not _ _ _ _ _ _ c.put_on_disk-on_disk.ensures.either);
  told = unless_settled c.put_on_disk-on_disk.result _ _ c.put_on_disk-on_disk.ensures.told
      (λ is. tells_by c.args.settled.now (node_in c.args.buffered.now) (node_in c.take_outcome-taken.new.buffered) _ _ _ _ _ c.node.ensures
      (ap g.S.Spool.holdings c.spool.ensures ∙ c.take_outcome-taken.ensures.led.stays)
      c.requires.on_disk.jobs (led_goes_on _ _ _ _ _ c.take_outcome-taken.ensures.led.events) is);
  calm = calm_unsettled c.put_on_disk-on_disk.result _ c.put_on_disk-on_disk.ensures.jobs_calm;
  fault = c.put_on_disk-on_disk.ensures.jobs_fault;
}
