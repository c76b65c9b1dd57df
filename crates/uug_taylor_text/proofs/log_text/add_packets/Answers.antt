use Rattle.std.proofs.Common.{◌++◌, codes}
use Rattle.std.specs.Fmt.{decimal}
use Rattle.uug_taylor_text.proofs.PartsLemmas.{then_two, two_first, two_more}
use Rattle.uug_taylor_text.proofs.log_text.add_packets.Goals as goal

pub returns : goal.returns
returns g c =
    let before = c.args.line.now.items in
    let sent = codes "Protocol 'g' packets: sent " ++ decimal c.args.sent in
    let resent = sent ++ codes ", resent " ++ decimal c.args.resent in
    then_two _ before c.add_number-2.new.line.items c.add_number-3.new.line.items resent (codes ", received ") (decimal c.args.received)
    (two_more before c.add_number.new.line.items c.add_number-2.new.line.items sent (codes ", resent ") (decimal c.args.resent)
    (two_first before c.add_number.new.line.items (codes "Protocol 'g' packets: sent ") (decimal c.args.sent) c.in_ok-add_number.ensures)
    c.in_ok-add_number-2.ensures)
    c.add_number-3.ensures
