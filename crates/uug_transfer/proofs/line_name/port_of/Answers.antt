use Rattle.std.proofs.Common.{◌∙◌}
use Rattle.uug_transfer.proofs.LineNameLemmas.{port_is}
use Rattle.uug_transfer.proofs.line_name.port_of.Goals as goal

pub returns : goal.returns
returns c = c.ok.ensures.value ∙ port_is c.args.text.now c.parse.result c.parse.ensures.value.0
