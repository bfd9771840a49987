pub mod Each
pub mod Histories
pub mod Serials
pub mod OneThread
pub mod Placed
pub mod KeptSections
pub mod LineChecks
pub mod SerialSections
