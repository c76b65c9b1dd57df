use Rattle.std.proofs.Common.{rules, List, ◌++◌, ap, ◌∙◌}
use Rattle.uug_taylor_queue.specs.OpenLines.{lines_gone, lines_left}
use Rattle.uug_taylor_queue.specs.declared.open_line.OpenLine.{OpenLine}
use Rattle.uug_taylor_queue.proofs.PartingLemmas.{divided_in_order}
use Rattle.uug_taylor_queue.proofs.parted.divided.Goals as goal

pub returns : goal.returns
returns g c =
    let is = divided_in_order c.args.struck.now c.args.failed.now c.args.lines.now c.part.new.gone.items c.as_slice.result.now c.part-2.new.gone.items
    c.part-2.new.left.items c.extend_from_slice.new.self.items c.len-done.result c.len.result
    (c.in_ok-part.ensures.gone ∙ ap (λ (ls : List OpenLine). ls ++ lines_gone c.args.struck.now c.args.lines.now) c.new-order.ensures.items)
    (c.as_slice.ensures.value ∙ c.in_ok-part.ensures.left
    ∙ ap (λ (ls : List OpenLine). ls ++ lines_left c.args.struck.now c.args.lines.now) c.new-others.ensures.items)
    c.in_ok-part-2.ensures.gone
    (c.in_ok-part-2.ensures.left ∙ ap (λ (ls : List OpenLine). ls ++ lines_left c.args.failed.now c.as_slice.result.now) c.new-left.ensures.items)
    (c.in_ok-extend_from_slice.ensures.items ∙ ap (λ (ls : List OpenLine). c.part-2.new.gone.items ++ ls) c.as_slice-2.ensures.value)
    (search rules) (search rules) in
    record { fits = is.fits; fits_both = is.fits_both; gone = is.gone_is; ops = is.ops; left = is.left_is }
