pub mod Cancelled
pub mod Failed
pub mod LastSession
pub mod Rivals
pub mod Status
pub mod StatusJson
pub mod StatusText
