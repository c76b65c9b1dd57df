use Rattle.std.proofs.Common.{◌++◌, codes, ap, ◌∙◌}
use Rattle.std.specs.Fmt.{decimal}
use Rattle.uug_taylor_text.proofs.PartsLemmas.{one_more, then_one, two_first, two_more}
use Rattle.uug_taylor_text.specs.LogLines.{or_dash}
use Rattle.uug_taylor_text.specs.Moments.{moment_text}
use Rattle.uug_taylor_text.proofs.log_text.add_head.Goals as goal

pub returns : goal.returns
returns g c =
    let before = c.args.line.now.items in
    let head = c.args.head.now in
    let program = head.program.now ++ codes " " in
    let system = program ++ or_dash head.system.now ++ codes " " in
    let user = system ++ or_dash head.user.now ++ codes " (" in
    let moment = user ++ moment_text head.moment in
    let process = moment ++ codes " " ++ decimal head.process in
    then_one _ before c.add_number.new.line.items c.add_text.new.line.items process (codes ") ")
    (two_more before c.add_moment.new.text.items c.add_number.new.line.items moment (codes " ") (decimal head.process)
    (one_more before c.add_dashed-2.new.line.items c.add_moment.new.text.items user (moment_text head.moment)
    (two_more before c.add_dashed.new.line.items c.add_dashed-2.new.line.items system (or_dash head.user.now) (codes " (")
    (two_more before c.add_named.new.line.items c.add_dashed.new.line.items program (or_dash head.system.now) (codes " ")
    (two_first before c.add_named.new.line.items head.program.now (codes " ") c.in_ok-add_named.ensures)
    c.in_ok-add_dashed.ensures)
    c.in_ok-add_dashed-2.ensures)
    c.in_ok-add_moment.ensures)
    (c.in_ok-add_number.ensures ∙ ap (λ n. c.add_moment.new.text.items ++ codes " " ++ decimal n) c.from.ensures))
    c.add_text.ensures
