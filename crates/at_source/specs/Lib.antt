pub mod Faults
pub mod Memory
pub mod Page
pub mod Standard
pub mod Whole
