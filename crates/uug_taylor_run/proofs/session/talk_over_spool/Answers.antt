use Rattle.std.proofs.Common.{subst, sym}
use Rattle.uug_session.specs.Engine.{IsEnded}
use Rattle.uug_session.specs.Node.{NodeState, node_of}
use Rattle.uug_taylor_run.proofs.CallAnswerLemmas.{ended_answers}
use Rattle.uug_taylor_run.proofs.WhyLemmas.{device_is_known}
use Rattle.uug_transfer.proofs.ReportedLemmas.{reported_of, runs_on}
use Rattle.uug_taylor_run.proofs.session.talk_over_spool.Goals as goal

pub returns : goal.returns
returns g c =
    ended_answers _ _ _ _ _ _ _ _ c.of-ended.ensures
    (record {
      status = c.answer_of-answer.ensures.within;
      reported = reported_of _ c.args.call.now.side _ _ (node_of c.node.result.now) _ _ _
          (runs_on c.args.call.now.side _ _ _ c.in_ok-end.ensures.ran c.run_end-session.ensures.led c.node.ensures)
          (subst (λ (end : NodeState). IsEnded end.engine.stage) (sym c.node.ensures) c.run_end-session.ensures.over)
          c.answer_of-answer.ensures.status c.answer_of-answer.ensures.appends;
      write = c.answer_of-answer.ensures.write;
      no_other = c.answer_of-answer.ensures.no_other;
      named = device_is_known c.answer_of-answer.result c.run_end-session.result c.failure.result
          c.in_ok-end.end.store.disk.faults.count c.run_end-session.new.end.store.disk.faults.count
          c.answer_of-answer.ensures.device c.answer_of-answer.ensures.memory c.in_ok-end.ensures.calm c.run_end-session.ensures.settles.fault
          c.run_end-session.ensures.no_number c.failure.ensures;
    })
