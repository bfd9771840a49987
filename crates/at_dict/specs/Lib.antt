pub mod Dictionary
pub mod Inline
