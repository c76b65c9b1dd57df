use Rattle.std.proofs.lemmas.Result.{IfOk-weaker}
use Rattle.uug_cli.proofs.ToolLemmas.{adds_tool}
use Rattle.uug_cli.proofs.tools.command.Goals as goal

pub returns : goal.returns
returns c =
    let scan = adds_tool c.program.ensures c.in_ok-subcommand.ensures c.in_ok-scan_command.ensures in
    let play = adds_tool scan c.in_ok-subcommand-2.ensures c.in_ok-play_command.ensures in
    let pair = adds_tool play c.in_ok-subcommand-3.ensures c.in_ok-pair_command.ensures in
    let call = adds_tool pair c.in_ok-subcommand-4.ensures c.in_ok-call_command.ensures in
    let answer = adds_tool call c.in_ok-subcommand-5.ensures c.in_ok-answer_command.ensures in
    let queue = adds_tool answer c.in_ok-subcommand-6.ensures c.in_ok-queue_command.ensures in
    IfOk-weaker c.subcommand-7.result _ _ (λ made step. adds_tool queue step c.in_ok-status_command.ensures) c.subcommand-7.ensures
