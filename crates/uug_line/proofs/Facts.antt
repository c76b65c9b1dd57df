pub mod CleanLineFacts
pub mod FactSetups
pub mod NoisyLineFacts
pub mod WideWindowFacts
pub mod Summaries
