pub mod Failures
pub mod Faults
pub mod Outcomes
pub mod Passing
