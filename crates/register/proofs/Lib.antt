pub mod KeyPlaces
pub mod Trades
mod Listed
mod Flags
pub mod Packing
pub mod Shapes
