pub mod Step
pub mod Syndromes
pub mod Follow
pub mod Example
