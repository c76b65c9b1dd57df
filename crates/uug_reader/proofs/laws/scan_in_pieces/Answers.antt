use Rattle.uug_reader.proofs.OneCut.{IsCut-append}
use Rattle.uug_reader.proofs.ScanLemmas.{IsScan-append}
use Rattle.uug_reader.proofs.laws.scan_in_pieces.Goals as goal

pub returns : goal.returns
returns c = record { scan = IsScan-append; cut = IsCut-append }
