pub mod Steps
pub mod Saying
mod Going
pub mod Leading
pub mod Determined
pub mod Numbering
pub mod Counts
mod Numbers
pub mod Alone
