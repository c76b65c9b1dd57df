mod CommandFacts
pub mod CommandLemmas
mod LogFacts
pub mod PartsLemmas
pub mod QuotingLemmas
mod SequenceFacts
pub mod ReplacedLemmas
pub mod SpacedLemmas
mod SpoolNameFacts
pub mod StandingLemmas
mod StatusFacts
pub mod StatusLemmas
pub mod StoredSafelyLemmas
mod TextFacts
pub mod WorkOrderLemmas
