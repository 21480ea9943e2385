pub mod Ledger
pub mod Refusals
pub mod Faults
pub mod Movement
pub mod Posting
pub mod Laws
