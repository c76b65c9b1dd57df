use Rattle.uug_scan.proofs.LawLemmas.{entries_adjoin}
use Rattle.uug_scan.proofs.laws.lines_adjoin.Goals as goal

pub returns : goal.returns
returns c = entries_adjoin
