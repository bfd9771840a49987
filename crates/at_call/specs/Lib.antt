pub mod UnderWay
pub mod Done
