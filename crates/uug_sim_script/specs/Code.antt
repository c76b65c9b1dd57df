-- How the code of this crate keeps what the other definitions say: no public contract names any of it.
pub mod Refusals
