use Rattle.std.proofs.lemmas.Result.{IfOk-weaker}
use Rattle.uug_cli.proofs.ToolLemmas.{adds}
use Rattle.uug_cli.proofs.tools.status_command.Goals as goal

pub returns : goal.returns
returns c =
    let dir = adds c.tool.ensures c.in_ok-arg.ensures c.path.ensures in
    let log = adds dir c.in_ok-arg-2.ensures c.named.ensures in
    let json = adds log c.in_ok-arg-3.ensures c.flag.ensures in
    let spool = adds json c.in_ok-arg-4.ensures c.flag-2.ensures in
    let peer = adds spool c.in_ok-arg-5.ensures c.named-2.ensures in
    IfOk-weaker c.arg-6.result _ _ (λ made step. adds peer step c.folder.ensures) c.arg-6.ensures
