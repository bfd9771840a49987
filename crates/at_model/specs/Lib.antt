pub mod World
pub mod Attributes
pub mod Step
pub mod History
pub mod Final
pub mod StoredOrders
pub mod Laws
