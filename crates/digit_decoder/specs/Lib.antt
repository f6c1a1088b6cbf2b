pub mod Held
pub mod Receive
pub mod Claims
pub mod Opening
pub mod Example
