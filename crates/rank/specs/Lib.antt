pub mod Keys
pub mod Claims
pub mod Laws
pub mod Ranks
pub mod Order
pub mod Relations
pub mod Numbers
pub mod Ties
