use Rattle.std.proofs.lemmas.Result.{IfOk-weaker}
use Rattle.uug_cli.proofs.ToolLemmas.{adds}
use Rattle.uug_cli.proofs.tools.answer_command.Goals as goal

pub returns : goal.returns
returns c =
    let peer = adds c.in_ok-end_command.ensures c.in_ok-command.ensures c.named.ensures in
    let end = c.in_ok-with_files.ensures _ (c.in_ok-with_talk.ensures _ peer) in
    let wait = adds end c.in_ok-arg.ensures c.whole.ensures in
    IfOk-weaker c.arg-3.result _ _ (λ made step. adds wait step c.number.ensures) c.arg-3.ensures
