pub mod ArrivingLemmas
pub mod CallLemmas
pub mod CleanLineLemmas
mod ComparedLemmas
pub mod CourseLemmas
pub mod EngineLemmas
mod Facts
pub mod FoundLemmas
pub mod Greetings
pub mod HeldLemmas
pub mod InRangeLemmas
mod KeeperLemmas
pub mod LineEventLemmas
mod LinkEndLemmas
mod LongTextLemmas
mod MadeLemmas
mod NextItemLemmas
pub mod NodeCallLemmas
pub mod NodeItemLemmas
pub mod NodeLemmas
pub mod NodeRunLemmas
pub mod NodeSearchLemmas
pub mod NumberLemmas
pub mod NumberStandingLemmas
pub mod OverLemmas
pub mod OwnRequestLemmas
pub mod PacketSearchLemmas
pub mod PiecesLemmas
mod ResultLemmas
pub mod RoomLemmas
mod SaidTextsLemmas
pub mod SameJobsLemmas
pub mod ShownItemLemmas
pub mod SpeakLemmas
pub mod StepKeeps
pub mod TextCallLemmas
pub mod TextSearchLemmas
pub mod TextsHeldLemmas
mod TimeoutLemmas
pub mod ToldLemmas
pub mod TwoEndsLemmas
