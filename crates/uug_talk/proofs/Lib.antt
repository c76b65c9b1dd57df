pub mod AnswerLemmas
pub mod CallLemmas
pub mod ChunkLemmas
mod DigestFacts
pub mod DigitLemmas
pub mod FirstTextLemmas
pub mod GatherLemmas
pub mod GathersBackLemmas
pub mod HashLemmas
pub mod HearLemmas
pub mod JoinedLemmas
pub mod LineLemmas
pub mod ModeLemmas
pub mod NameLemmas
pub mod NamedLemmas
pub mod NumberLemmas
pub mod OrderLemmas
mod PositionFacts
pub mod PositionLemmas
pub mod ReadLemmas
pub mod RefusedLemmas
pub mod ResultLemmas
pub mod StandardFacts
pub mod StreamTextLemmas
pub mod TellingLemmas
pub mod TextLemmas
pub mod WordLemmas
pub mod WriteLemmas
