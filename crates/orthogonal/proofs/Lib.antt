pub mod Failures
pub mod Meeting
pub mod WordCode
pub mod Clashes
pub mod Passing
pub mod Within
