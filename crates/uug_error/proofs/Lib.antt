pub mod FaultLemmas
pub mod OutcomeLemmas
pub mod ReadingLemmas
