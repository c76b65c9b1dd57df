pub mod ReasonFacts
pub mod JobsFacts
pub mod HeardFacts
pub mod PassedFacts
