pub mod Terms
pub mod Entries
pub mod Cards
pub mod Answers
