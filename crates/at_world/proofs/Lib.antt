mod Definitions
mod Getattr
mod Rebasing
mod Rebased
