pub mod ScanLemmas
pub mod OneListing
pub mod ListingFacts
pub mod DecodedLemmas
pub mod ToldLemmas
pub mod DetailedLemmas
pub mod LawLemmas
pub mod DetailedFacts
