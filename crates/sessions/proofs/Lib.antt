pub mod Memory
pub mod Running
pub mod Receiving
pub mod Sending
