pub mod Members
pub mod Paths
pub mod Changes
pub mod Walks
pub mod Depth
pub mod Stages
