pub mod SliceLemmas
pub mod StepLemmas
pub mod NumberLemmas
pub mod CountLemmas
pub mod RunLemmas
pub mod RelationLemmas
pub mod OrderLemmas
pub mod RoomLemmas
