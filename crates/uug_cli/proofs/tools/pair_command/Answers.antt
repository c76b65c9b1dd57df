use Rattle.std.proofs.lemmas.Result.{IfOk-weaker}
use Rattle.uug_cli.proofs.ToolLemmas.{adds}
use Rattle.uug_cli.proofs.tools.pair_command.Goals as goal

pub returns : goal.returns
returns c =
    let socket = adds c.tool.ensures c.in_ok-arg.ensures c.path.ensures in
    let dir_a = adds socket c.in_ok-arg-2.ensures c.path-2.ensures in
    let dir_b = adds dir_a c.in_ok-arg-3.ensures c.path-3.ensures in
    let drop_every = adds dir_b c.in_ok-arg-4.ensures c.every.ensures in
    let flip_every = adds drop_every c.in_ok-arg-5.ensures c.every-2.ensures in
    IfOk-weaker c.arg-6.result _ _ (λ made step. adds flip_every step c.verbose.ensures) c.arg-6.ensures
