mod Accord
mod AdvanceLemmas
mod AlternationLemmas
mod ChoiceLemmas
mod ComparedFacts
pub mod ComparingLemmas
pub mod ConversationFacts
mod CutSessionLemmas
mod DialogueLemmas
pub mod EarlierJobLemmas
pub mod EarlyLemmas
mod EntryLemmas
mod ExchangeLemmas
pub mod FactParties
pub mod FirstLaw
pub mod FitLemmas
pub mod FloorLemmas
mod FrontLemmas
mod GoingOnLemmas
mod LandingFacts
mod LenientFacts
mod LimitFacts
mod LimitLemmas
mod MachineFacts
mod MachineLemmas
pub mod MachineMoveLemmas
mod OfferLemmas
mod OneEndFacts
pub mod OneEndLemmas
pub mod OutgoingLemmas
pub mod OwnEntryLemmas
mod PartLemmas
pub mod PartialLemmas
mod PlainLemmas
mod QueueLemmas
pub mod ReadBackLemmas
pub mod ResumingLemmas
pub mod SaidByteLemmas
mod SayableLemmas
pub mod SharingLemmas
pub mod StoredLemmas
mod StrictLemmas
pub mod ToldLemmas
pub mod TruthLemmas
mod TurnLemmas
mod WholeFileLemmas
