pub mod CopyLemmas
pub mod NameLemmas
