-- How the code of this crate fulfils the other definitions. No public contract names anything in here.
pub mod LocalModes
