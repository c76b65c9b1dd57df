pub mod KindWords
pub mod ReasonHints
pub mod Reasons
pub mod JobsWords
pub mod HeardWords
pub mod LargeWords
pub mod PassedWords
