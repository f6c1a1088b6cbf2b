pub mod Cases
pub mod Sums
pub mod Lists
pub mod Back
pub mod Digits
pub mod Words
pub mod Held
pub mod Terms
