mod Cuts
pub mod Keeps
mod Names
mod Values
