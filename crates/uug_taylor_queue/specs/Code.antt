-- How the code of this crate meets the other definitions. No public contract names any of it.
pub mod MailModes
pub mod Parting
