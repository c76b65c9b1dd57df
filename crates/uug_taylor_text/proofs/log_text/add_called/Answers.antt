use Rattle.std.proofs.Common.{◌++◌, codes}
use Rattle.uug_taylor_text.proofs.PartsLemmas.{then_one, two_first, two_more}
use Rattle.uug_taylor_text.proofs.log_text.add_called.Goals as goal

pub returns : goal.returns
returns g c =
    let before = c.args.line.now.items in
    let login = codes "Incoming call (login " ++ c.args.login.now in
    let port = login ++ codes " port " ++ c.args.port.now in
    then_one _ before c.add_named-2.new.line.items c.add_text.new.line.items port (codes ")")
    (two_more before c.add_named.new.line.items c.add_named-2.new.line.items login (codes " port ") c.args.port.now
    (two_first before c.add_named.new.line.items (codes "Incoming call (login ") c.args.login.now c.in_ok-add_named.ensures)
    c.in_ok-add_named-2.ensures)
    c.add_text.ensures
