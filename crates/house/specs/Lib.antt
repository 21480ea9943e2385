pub mod Handled
pub mod Seen
pub mod Opened
