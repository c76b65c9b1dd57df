use Rattle.std.proofs.Common.{rules, string_bytes}
use Rattle.uug_sim_play.proofs.SettledLemmas.{has_not_settled, has_settled}
use Rattle.uug_sim_play.proofs.settled.shown_settled.Goals as goal

pub returns-in-Some : goal.returns-in-Some
returns-in-Some g c =
    has_not_settled c.args.report (string_bytes c.in_ok-text.field-0.text) (string_bytes c.add_unsettled.new.text)
    c.in_ok-text.field-0.status c.in-Some.why c.in-Some.ensures.why c.in_ok-text.ensures.text c.in_ok-text.ensures.status
    (search rules)

pub returns : goal.returns
returns g c =
    has_settled c.args.report (string_bytes c.in-Ok.field-0.text) (string_bytes c.in_ok-last.last.text)
    (string_bytes c.push_str.new.self) c.in_ok-last.last.status
    (λ setup events is. c.why_unsettled.ensures.world setup events is (search rules)) c.in-Ok.ensures.text
    (search rules) c.in_ok-last.ensures
