pub mod Outcome
pub mod Wrote
pub mod Sending
pub mod Receiving
pub mod Claims
pub mod Admissions
pub mod Text
pub mod Listing
