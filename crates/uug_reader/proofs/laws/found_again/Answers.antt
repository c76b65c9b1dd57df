use Rattle.uug_reader.proofs.FindingLemmas.{StandsFirst-append, stands_again, stands_always}
use Rattle.uug_reader.proofs.laws.found_again.Goals as goal

pub returns : goal.returns
returns c = record { first = StandsFirst-append; same = stands_again; some = stands_always }
