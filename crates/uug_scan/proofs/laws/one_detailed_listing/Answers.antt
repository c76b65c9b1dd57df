use Rattle.uug_scan.proofs.LawLemmas.{IsDetailed-some, IsDetailed-unique}
use Rattle.uug_scan.proofs.laws.one_detailed_listing.Goals as goal

pub returns : goal.returns
returns c = record { some = IsDetailed-some; only = IsDetailed-unique }
