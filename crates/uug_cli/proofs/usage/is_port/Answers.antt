use Rattle.std.proofs.Common.{◌∙◌, Some, None, ap, arith}
use Rattle.uug_store.proofs.LastPlaceLemmas.{split_at_last}
use Rattle.uug_cli.specs.UsageWords.{is_port_behind}
use Rattle.uug_cli.proofs.usage.is_port.Goals as goal

pub returns-in-Some : goal.returns-in-Some
returns-in-Some c = c.is_port_text.ensures
    ∙ ap is_port_behind (split_at_last 58 c.args.line.now (Some c.in-Some.parts) c.in-Some.ensures.cases (omega arith))

pub returns-in-None : goal.returns-in-None
returns-in-None c = ap is_port_behind (split_at_last 58 c.args.line.now None c.in-None.ensures.cases (omega arith))
