pub mod Splitting
pub mod Numeral
pub mod Forms
pub mod Meaning
pub mod Gathering
pub mod Wording
