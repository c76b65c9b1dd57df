pub mod CancelLemmas
mod StatusFacts
