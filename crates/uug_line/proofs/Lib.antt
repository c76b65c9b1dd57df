pub mod AnswerLemmas
mod ByteLemmas
mod CameLemmas
mod CarriedLemmas
mod EmittedByteLemmas
pub mod EndCallLemmas
pub mod FoundLemmas
mod HeardLemmas
mod GreetedLemmas
pub mod LinkLemmas
mod LinkRunLemmas
mod LowerLemmas
mod MachineLemmas
pub mod MoveLemmas
mod ItemLemmas
mod JournalLemmas
mod PastLemmas
mod PieceLemmas
mod QuietLemmas
pub mod PlaceLemmas
mod SendLemmas
pub mod SessionLemmas
pub mod SpeakLemmas
mod Standing
pub mod StepLemmas
pub mod StoredSince
mod ToldLemmas
mod VerdictLemmas
mod RunLemmas
pub mod SideLemmas
mod SightingLemmas
mod SimulatorLemmas
mod SpokenLemmas
mod SpeakingLemmas
mod TakenLemmas
mod ReportLemmas
mod Clean
mod Facts
pub mod World
