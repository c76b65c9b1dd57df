pub mod FolderLemmas
pub mod JobsAfterLemmas
pub mod JobsTextLemmas
pub mod LastPlaceLemmas
pub mod LocalFacts
pub mod LocalLemmas
pub mod NumberTextLemmas
mod OpenJobsFacts
pub mod OpenJobsLemmas
pub mod PartialLemmas
pub mod QueuedLemmas
pub mod QueueingFacts
pub mod QueueingLemmas
pub mod StandardFacts
