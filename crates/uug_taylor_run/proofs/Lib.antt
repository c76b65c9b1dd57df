pub mod CallAnswerLemmas
pub mod PathLemmas
pub mod PublicFileLemmas
pub mod WhyLemmas
mod PublicNameFacts
mod GradeFacts
mod SpoolStatusFacts
