mod DeviceLockFacts
pub mod LockTextLemmas
