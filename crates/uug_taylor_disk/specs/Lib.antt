pub mod Access
pub mod Paths
pub mod Read
pub mod Reach
