use Rattle.std.proofs.lemmas.Result.{IfOk-weaker}
use Rattle.uug_cli.proofs.ToolLemmas.{adds, excludes}
use Rattle.uug_cli.proofs.tools.play_command.Goals as goal

pub returns : goal.returns
returns c =
    let file = adds c.tool.ensures c.in_ok-arg.ensures c.file.ensures in
    let verbose = adds file c.in_ok-arg-2.ensures c.verbose.ensures in
    let settle = adds verbose c.in_ok-arg-3.ensures (excludes _ c.flag.ensures c.in_ok-conflicts_with.ensures) in
    IfOk-weaker c.arg-4.result _ _ (λ made step. adds settle step c.in_ok-ladder.ensures) c.arg-4.ensures
