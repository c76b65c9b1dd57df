pub mod FailureRemarks
pub mod HeldLines
pub mod JobRemarks
pub mod NumberRemarks
pub mod SilentCallers
pub mod UnreadRemarks
