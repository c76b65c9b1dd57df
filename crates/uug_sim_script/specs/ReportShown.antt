-- What the program shows of a report.
use Rattle.std.specs.Prelude.{map}
use Rattle.uug_conversation.specs.MemoryHoldings.{kept_of}
use Rattle.uug_sim_script.specs.declared.report.ShownEnd.{ShownEnd}
use Rattle.uug_sim_script.specs.declared.report.ShownReport.{ShownReport}
use Rattle.uug_sim_script.specs.ReportText.{EndResult, RunResult}

abbrev pub end_shown : {A : Type 0} → ShownEnd A → EndResult
end_shown e = record {
  pending = e.pending;
  struck = e.struck;
  failed = e.failed;
  stored = map kept_of e.stored.now;
  held = e.held.now;
  number = e.number;
}

abbrev pub report_shown : {A : Type 0} → ShownReport A → RunResult
report_shown r = record {
  sessions = r.sessions.now;
  caller = end_shown r.caller;
  called = end_shown r.called;
  verdict = r.verdict;
}
