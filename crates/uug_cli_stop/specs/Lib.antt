pub mod Refused
pub mod Stop
