pub mod Lines
pub mod Logged
pub mod Losses
pub mod Paces
pub mod Watched
