pub mod Counts
pub mod Merge
pub mod Room
pub mod Laws
pub mod Slices
