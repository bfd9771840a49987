pub mod Intending
