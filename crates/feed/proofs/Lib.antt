pub mod Flags
pub mod Forward
pub mod Turns
