pub use Rattle.uug_reader.specs.Cut
pub use Rattle.uug_reader.specs.Scan as StreamScan
pub mod Listing
pub mod Scan
pub mod Told
pub mod Detailed
pub mod Code
