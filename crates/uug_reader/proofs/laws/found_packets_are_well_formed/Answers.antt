use Rattle.uug_reader.proofs.WellFormedLemmas.{found_well_formed}
use Rattle.uug_reader.proofs.laws.found_packets_are_well_formed.Goals as goal

pub returns : goal.returns
returns c = found_well_formed
