use Rattle.uug_reader.proofs.ScanLemmas.{Finds-none, Finds-item, Finds-join, Finds-append, Finds-fewer}
use Rattle.uug_reader.proofs.laws.found_in_steps.Goals as goal

pub returns : goal.returns
returns c = record { none = Finds-none; item = Finds-item; more = Finds-join; behind = Finds-append; fewer = Finds-fewer }
