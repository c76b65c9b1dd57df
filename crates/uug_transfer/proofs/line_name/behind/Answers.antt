use Rattle.uug_transfer.proofs.LineNameLemmas.{behind_is}
use Rattle.uug_transfer.proofs.line_name.behind.Goals as goal

pub returns : goal.returns
returns c = behind_is c.args.word.now c.args.text.now c.strip_prefix.result c.strip_prefix.ensures.cases
