pub mod Faults
pub mod Readings
pub mod Format
pub mod Steps
pub mod Shown
pub mod Coming
