pub mod Outcomes
pub mod Calls
pub mod Counting
pub mod Claim
pub mod Opening
pub mod Example
pub mod Edges
