use Rattle.uug_scan.proofs.OneListing.{IsListing-some, IsListing-unique}
use Rattle.uug_scan.proofs.laws.one_listing.Goals as goal

pub returns : goal.returns
returns c = record { some = IsListing-some; only = IsListing-unique }
