pub mod ActsLemmas
pub mod ArrivalLemmas
pub mod FrontLemmas
pub mod ShownLemmas
pub mod StandardFacts
pub mod WayLemmas
