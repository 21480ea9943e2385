pub mod Overview
pub mod Members
pub mod Lines
