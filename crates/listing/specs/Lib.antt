pub mod AtFront
pub mod Auditing
pub mod Promise
pub mod Written
pub mod Stored
pub mod Rewriting
