use Rattle.std.proofs.lemmas.Result.{IfOk-weaker}
use Rattle.uug_cli.proofs.ToolLemmas.{adds}
use Rattle.uug_cli.proofs.tools.end_command.Goals as goal

pub returns : goal.returns
returns c =
    let line = adds c.tool.ensures c.in_ok-arg.ensures c.path.ensures in
    let dir = adds line c.in_ok-arg-2.ensures c.path-2.ensures in
    IfOk-weaker c.arg-3.result _ _ (λ made step. adds dir step c.end_name.ensures) c.arg-3.ensures
