pub mod Run
pub mod Receiving
pub mod Sending
