use Rattle.uug_line.proofs.ReportLemmas.{can_settle, may_settle}
use Rattle.uug_line.proofs.report.Report.can_settle.Goals as goal

pub returns-clause-world : goal.returns-clause-world
returns-clause-world g c = λ setup events is. (
  λ yes. may_settle setup events c.args.self.now is (c.is_quiet.ensures.0 yes),
  λ may. c.is_quiet.ensures.1 (can_settle setup events c.args.self.now is may),
)
