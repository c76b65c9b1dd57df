use Rattle.std.proofs.Common.{string_bytes}
use Rattle.uug_sim_play.proofs.SettledLemmas.{is_behind}
use Rattle.uug_sim_play.proofs.settled.settled.Goals as goal

pub returns : goal.returns
returns g c = λ setup events is.
    is_behind setup events (string_bytes c.in_ok-last.field-0.text) c.in_ok-last.field-0.status c.in_ok-report.report
    (c.in_ok-report.ensures.world setup events is) c.in_ok-last.ensures.text c.in_ok-last.ensures.status
