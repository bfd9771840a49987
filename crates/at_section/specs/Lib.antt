pub mod Deeds
pub mod Scores
pub mod Sections
pub mod Surfaces
pub mod Calls
pub mod Quiet
pub mod Kept
