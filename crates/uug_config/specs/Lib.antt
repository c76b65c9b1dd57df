pub mod Places
pub mod Tasks
