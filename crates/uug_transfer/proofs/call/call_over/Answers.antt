use Rattle.std.proofs.Common.{ℕ, Err, ap, rules}
use Rattle.uug_stream.specs.declared.fault.ToolFault.TheVariants as faults
use Rattle.uug_session.specs.Node.{NodeState}
use Rattle.uug_transfer.specs.Ends.{report_of}
use Rattle.uug_transfer.proofs.EndLemmas.{printed_behind_device, printing_stopped}
use Rattle.uug_transfer.proofs.call.call_over.Goals as goal

pub returns-in-Err-Jobs-clause-report : goal.returns-in-Err-Jobs-clause-report
returns-in-Err-Jobs-clause-report g c =
    printed_behind_device ℕ (Unit {0}) _ c.print_report-printed.result _ _ _ _ _ _ _ c.fault_behind_line.ensures
    (ap (λ (n : NodeState). report_of c.args.side n) c.node-in-Err-Jobs.ensures)
    (record {
      appends = c.print_report-printed.ensures.appends;
      begins = c.print_report-printed.ensures.begins;
      fault = c.print_report-printed.ensures.fault;
    })

pub returns-in-Err-clause-report : goal.returns-in-Err-clause-report
returns-in-Err-clause-report g c =
    printing_stopped ℕ c.in-Err.fault _ _ _ _ _ _ _ (ap (λ (n : NodeState). report_of c.args.side n) c.node.ensures)
    c.in-Err.ensures.begins c.in-Err.ensures.fault

pub returns-in-Err-Memory-clause-session : goal.returns-in-Err-Memory-clause-session
returns-in-Err-Memory-clause-session g c = record {
  ended = c.run_at_line-session.result;
  session = c.run_at_line-session.ensures.session;
  over = c.run_at_line-session.ensures.over;
  printed = Err faults.Memory;
  answered = search rules;
}
