pub mod Events
pub mod Calls
pub mod OneView
pub mod Worked
pub mod Laws
