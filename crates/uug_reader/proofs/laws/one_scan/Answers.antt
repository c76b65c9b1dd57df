use Rattle.uug_reader.proofs.ScanLemmas.{IsScan-some, IsScan-unique}
use Rattle.uug_reader.proofs.laws.one_scan.Goals as goal

pub returns : goal.returns
returns c = record { some = IsScan-some; only = IsScan-unique }
