pub mod Outcome
pub mod Sending
pub mod Calls
pub mod Claims
pub mod Opening
pub mod Example
pub mod Edges
