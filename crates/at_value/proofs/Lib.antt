mod Places
pub mod Words
pub mod OperationWords
pub mod Maps
