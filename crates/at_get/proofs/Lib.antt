mod Loaded
mod Grown
mod Reading
mod Confirming
mod Trials
