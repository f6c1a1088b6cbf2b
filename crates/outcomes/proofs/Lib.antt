pub mod Writing
pub mod Answers
-- bursts
pub mod Outcomes
pub mod Received
pub mod ReadCards
pub mod Edges
pub mod Admissions
-- the listing
pub mod Beyond
pub mod Listings
pub mod Example
