pub mod Sums
pub mod Registers
pub mod Held
pub mod Sent
