pub mod Scores
mod Notes
pub mod Standing
pub mod Holdings
pub mod Settling
mod Room
pub mod Ending
pub mod Begun
pub mod Outside
pub mod Steps
pub mod Quiet
mod KeptLines
