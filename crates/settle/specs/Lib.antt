pub mod Answers
pub mod Books
pub mod Obedience
pub mod Sessions
pub mod Statements
pub mod Desks
pub mod Scripts
