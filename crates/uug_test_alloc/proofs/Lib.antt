pub mod Counting
pub mod Handle
