pub mod Classes
pub mod Committed
pub mod Changed
