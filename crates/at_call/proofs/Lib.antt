pub mod Marks
pub mod From
pub mod Keeping
pub mod Growing
pub mod UnderWays
pub mod Found
pub mod Reading
pub mod Writing
