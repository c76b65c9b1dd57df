pub mod PlayLemmas
pub mod PlayedLemmas
pub mod ReasonLemmas
pub mod SettledLemmas
pub mod StandardFacts
pub mod WholeLemmas
