pub mod DeviceLocks
