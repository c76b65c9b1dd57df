pub mod AnsweredLemmas
pub mod EndAnswerLemmas
pub mod FrontLemmas
pub mod SpoolLockLemmas
