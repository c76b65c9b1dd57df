use Rattle.std.proofs.lemmas.Result.{IfOk-weaker}
use Rattle.uug_cli.proofs.ToolLemmas.{adds}
use Rattle.uug_cli.proofs.tools.queue_command.Goals as goal

pub returns : goal.returns
returns c =
    let dir = adds c.tool.ensures c.in_ok-arg.ensures c.path.ensures in
    let order = adds dir c.in_ok-arg-2.ensures c.optional.ensures in
    let file = adds order c.in_ok-arg-3.ensures c.optional-2.ensures in
    let target = adds file c.in_ok-arg-4.ensures c.optional-3.ensures in
    let user = adds target c.in_ok-arg-5.ensures c.named.ensures in
    IfOk-weaker c.arg-6.result _ _ (λ made step. adds user step c.named-2.ensures) c.arg-6.ensures
