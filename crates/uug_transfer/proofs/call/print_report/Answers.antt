use Rattle.uug_transfer.proofs.EndLemmas.{begins_report}
use Rattle.uug_transfer.proofs.call.print_report.Goals as goal

pub returns-clause-begins : goal.returns-clause-begins
returns-clause-begins g c = begins_report c.write_all.result _ _ _ _ _ c.in_ok-report.ensures c.as_bytes.ensures.value c.write_all.ensures.begins
