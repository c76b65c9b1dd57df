use Rattle.std.proofs.Common.{◌++◌, codes, ap, ◌∙◌}
use Rattle.std.specs.Fmt.{decimal}
use Rattle.uug_taylor_text.proofs.PartsLemmas.{then_one, two_first, two_more}
use Rattle.uug_taylor_text.specs.LogLines.{rate}
use Rattle.uug_taylor_text.proofs.log_text.add_over.Goals as goal

pub returns : goal.returns
returns g c =
    let before = c.args.line.now.items in
    let seconds = codes "Call complete (" ++ decimal c.args.seconds in
    let bytes = seconds ++ codes " seconds " ++ decimal c.args.bytes in
    let speed = decimal (rate c.args.bytes c.args.seconds) in
    let all = bytes ++ codes " bytes " ++ speed in
    then_one _ before c.add_number-3.new.line.items c.add_text.new.line.items all (codes " bps)")
    (two_more before c.add_number-2.new.line.items c.add_number-3.new.line.items bytes (codes " bytes ") speed
    (two_more before c.add_number.new.line.items c.add_number-2.new.line.items seconds (codes " seconds ") (decimal c.args.bytes)
    (two_first before c.add_number.new.line.items (codes "Call complete (") (decimal c.args.seconds) c.in_ok-add_number.ensures)
    c.in_ok-add_number-2.ensures)
    (c.in_ok-add_number-3.ensures ∙ ap (λ n. c.add_number-2.new.line.items ++ codes " bytes " ++ decimal n) c.rate.ensures))
    c.add_text.ensures
