use Rattle.std.proofs.Common.{string_bytes}
use Rattle.uug_line.specs.Shown.{owned_by, spool_of, stands_so}
use Rattle.uug_sim_play.proofs.ReasonLemmas.{lines_are}
use Rattle.uug_sim_play.proofs.reasons.add_reasons.Goals as goal

pub returns : goal.returns
returns g c =
    lines_are c.args.report.now.told c.args.report.now.spools (string_bytes c.args.text.now) (string_bytes c.add_end.new.text)
    (string_bytes c.add_end-2.new.text) (owned_by c.caller-caller.result.now) (owned_by c.called-called.result.now)
    (stands_so c.caller-caller.result.now) (stands_so c.called-called.result.now) (spool_of c.caller-caller.result.now) (spool_of c.called-called.result.now)
    c.caller-caller.ensures.has c.called-called.ensures.has c.caller-caller.ensures.stands c.called-called.ensures.stands
    c.caller-caller.ensures.spool c.called-called.ensures.spool c.in_ok-add_end.ensures c.in_ok-add_end-2.ensures
