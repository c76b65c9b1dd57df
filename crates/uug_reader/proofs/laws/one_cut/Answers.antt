use Rattle.uug_reader.proofs.OneCut.{IsCut-some, IsCut-unique}
use Rattle.uug_reader.proofs.laws.one_cut.Goals as goal

pub returns : goal.returns
returns c = record { some = IsCut-some; only = IsCut-unique }
