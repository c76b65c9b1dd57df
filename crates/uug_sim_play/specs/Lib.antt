pub mod Numbers
pub mod Played
pub mod Reasons
pub mod Settled
pub mod Unsettled
pub mod Whole
