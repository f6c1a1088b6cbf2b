pub mod Outcome
pub mod Claims
pub mod Bench
