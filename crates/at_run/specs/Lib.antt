pub mod Opening
pub mod LegalRun
pub mod PlainRun
pub mod Turns
pub mod Blocks
pub mod Laws
pub mod RunExamples
