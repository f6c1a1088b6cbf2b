pub mod Loops
pub mod Step
pub mod Follow
pub mod Example
