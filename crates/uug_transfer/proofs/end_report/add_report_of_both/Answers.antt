use Rattle.std.proofs.lemmas.Result.{on_ok_weaker}
use Rattle.uug_conversation.specs.declared.side.Side.TheVariants.{Caller, Called}
use Rattle.uug_session.specs.Node.{node_of}
use Rattle.uug_transfer.proofs.ReportLemmas.{failed_behind, report_behind, state_behind}
use Rattle.uug_transfer.proofs.end_report.add_report_of_both.Goals as goal

pub returns : goal.returns
returns g c =
    on_ok_weaker c.add_failed-2.result (λ last. report_behind (node_of c.args.caller.now) (node_of c.args.called.now) _ _ _ _ _
    (state_behind Caller _ _ _ _ _ _ c.phase.ensures c.queue.ensures.jobs c.in_ok-add_state.ensures.ok)
    (state_behind Called _ _ _ _ _ _ c.phase-2.ensures c.queue-2.ensures.jobs c.in_ok-add_state-2.ensures.ok)
    (failed_behind Caller _ _ _ _ c.queue-3.ensures.jobs c.in_ok-add_failed.ensures.ok)
    (failed_behind Called _ _ _ _ c.queue-4.ensures.jobs last)) c.add_failed-2.ensures.ok
