use Rattle.uug_reader.proofs.CutLemmas.{items_of-append}
use Rattle.uug_reader.proofs.laws.items_joined.Goals as goal

pub returns : goal.returns
returns c = items_of-append
