pub mod Refusing
pub mod Accounts
pub mod Judged
pub mod Passed
pub mod Asked
