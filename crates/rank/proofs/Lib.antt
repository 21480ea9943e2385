pub mod Members
pub mod Sorting
pub mod Lines
pub mod Kept
