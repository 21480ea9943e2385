mod Brought
pub mod Emptiness
mod Kept
mod Made
mod Novated
pub mod Passing
pub mod Same
