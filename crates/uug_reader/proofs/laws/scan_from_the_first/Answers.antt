use Rattle.uug_reader.proofs.ScanLemmas.{IsScan-item, IsScan-rest}
use Rattle.uug_reader.proofs.laws.scan_from_the_first.Goals as goal

pub returns : goal.returns
returns c = record { item = IsScan-item; rest = IsScan-rest }
