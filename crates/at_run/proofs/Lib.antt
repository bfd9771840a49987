mod Turning
mod Serial
mod Unique
mod InOrder
mod RunChecks
pub mod Legals
pub mod Blocks
