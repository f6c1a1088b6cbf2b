pub mod Sums
pub mod Digits
