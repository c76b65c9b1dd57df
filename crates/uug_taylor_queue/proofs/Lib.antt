pub mod ArrivalLemmas
mod FolderRuleFacts
mod MailFacts
pub mod OpenLinesLemmas
pub mod OverLemmas
pub mod PartingLemmas
pub mod RewritingLemmas
pub mod StoreLemmas
pub mod StopLemmas
