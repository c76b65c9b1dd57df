pub mod EndFacts
pub mod EndStepFacts
pub mod GreetingFacts
pub mod TextSearchFacts
pub mod ToldFacts
