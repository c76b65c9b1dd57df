pub mod Callers
pub mod Calls
pub mod EndAnswers
pub mod HubFaults
pub mod SpoolCalls
pub mod SpoolLocks
