use Rattle.uug_reader.proofs.CallLemmas.{dropped_are_found, dropped_are_first}
use Rattle.uug_reader.proofs.laws.dropped_are_first.Goals as goal

pub returns : goal.returns
returns c = record { finds = dropped_are_found; scan = dropped_are_first }
