pub mod Now
pub mod Waiting
pub mod Families
