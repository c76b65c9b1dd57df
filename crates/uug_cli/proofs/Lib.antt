pub mod AskedFacts
pub mod AskedLemmas
pub mod ToolLemmas
pub mod UsageFacts
