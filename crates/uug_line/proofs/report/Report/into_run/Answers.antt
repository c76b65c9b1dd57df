use Rattle.std.proofs.Common.{◌∙◌, ◌++◌, Option, ap, option_to_list}
use Rattle.uug_line.specs.declared.report.SessionReport.{SessionReport}
use Rattle.uug_line.specs.LineEndValue.{live_end_value}
use Rattle.uug_line.proofs.ReportLemmas.{goes_on_as}
use Rattle.uug_line.proofs.report.Report.into_run.Goals as goal

pub returns-clause-same : goal.returns-clause-same
returns-clause-same g c = λ parts shown.
    goes_on_as c.self.inside.sessions.items c.pop.new.self.items c.in-Some.last c.self.inside.caller c.self.inside.called
    c.self.inside.verdict c.args.self (live_end_value c.goes_on.result) (live_end_value c.goes_on-2.result) c.self.view_is
    (c.pop.ensures.items ∙ ap (λ (last : Option (SessionReport _)). c.pop.new.self.items ++ option_to_list last) c.in-Some.is)
    c.goes_on.ensures c.goes_on-2.ensures parts shown
