use Rattle.std.proofs.Common.{◌++◌, codes, ap, ◌∙◌}
use Rattle.std.specs.Fmt.{decimal}
use Rattle.uug_taylor_text.proofs.PartsLemmas.{then_one, two_first, two_more}
use Rattle.uug_taylor_text.proofs.log_text.add_agreed.Goals as goal

pub returns : goal.returns
returns g c =
    let before = c.args.line.now.items in
    let front = codes "Handshake successful (protocol 'g' sending packet/window " in
    let size = front ++ decimal c.args.own.0 in
    let window = size ++ codes "/" ++ decimal c.args.own.1 in
    let far_size = window ++ codes " receiving " ++ decimal c.args.far.0 in
    let far_window = far_size ++ codes "/" ++ decimal c.args.far.1 in
    then_one _ before c.add_number-4.new.line.items c.add_text.new.line.items far_window (codes ")")
    (two_more before c.add_number-3.new.line.items c.add_number-4.new.line.items far_size (codes "/") (decimal c.args.far.1)
    (two_more before c.add_number-2.new.line.items c.add_number-3.new.line.items window (codes " receiving ") (decimal c.args.far.0)
    (two_more before c.add_number.new.line.items c.add_number-2.new.line.items size (codes "/") (decimal c.args.own.1)
    (two_first before c.add_number.new.line.items front (decimal c.args.own.0)
    (c.in_ok-add_number.ensures ∙ ap (λ n. before ++ front ++ decimal n) c.from.ensures))
    (c.in_ok-add_number-2.ensures ∙ ap (λ n. c.add_number.new.line.items ++ codes "/" ++ decimal n) c.from-2.ensures))
    (c.in_ok-add_number-3.ensures ∙ ap (λ n. c.add_number-2.new.line.items ++ codes " receiving " ++ decimal n) c.from-3.ensures))
    (c.in_ok-add_number-4.ensures ∙ ap (λ n. c.add_number-3.new.line.items ++ codes "/" ++ decimal n) c.from-4.ensures))
    c.add_text.ensures
