pub mod Serials
pub mod Views
pub mod Sound
pub mod Calls
pub mod OneViews
pub mod Joins
pub mod OneThread
