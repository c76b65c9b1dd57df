use Rattle.std.proofs.lemmas.Result.{IfOk-weaker}
use Rattle.uug_cli.proofs.ToolLemmas.{adds}
use Rattle.uug_cli.proofs.tools.call_command.Goals as goal

pub returns : goal.returns
returns c =
    let peer = adds c.in_ok-end_command.ensures c.in_ok-command.ensures c.end_name.ensures in
    let end = c.in_ok-with_files.ensures _ (c.in_ok-with_talk.ensures _ peer) in
    IfOk-weaker c.arg-2.result _ _ (λ made step. adds end step c.flag.ensures) c.arg-2.ensures
