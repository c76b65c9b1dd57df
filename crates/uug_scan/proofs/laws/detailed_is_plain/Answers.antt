use Rattle.uug_scan.proofs.LawLemmas.{plain_listing}
use Rattle.uug_scan.proofs.laws.detailed_is_plain.Goals as goal

pub returns : goal.returns
returns c = plain_listing
