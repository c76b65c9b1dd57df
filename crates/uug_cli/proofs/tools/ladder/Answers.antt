use Rattle.std.proofs.lemmas.Result.{IfOk-weaker}
use Rattle.uug_cli.proofs.ToolLemmas.{excludes}
use Rattle.uug_cli.proofs.tools.ladder.Goals as goal

pub returns : goal.returns
returns c = IfOk-weaker c.conflicts_with-2.result _ _
    (λ made step. excludes _ (excludes _ c.flag.ensures c.in_ok-conflicts_with.ensures) step) c.conflicts_with-2.ensures
