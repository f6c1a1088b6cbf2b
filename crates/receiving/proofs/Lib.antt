-- frames as they come
pub mod Levels
pub mod Yields
pub mod Read
-- lists of calls
pub mod Outcomes
pub mod Admissions
pub mod LevelRows
pub mod Answers
pub mod Follow
pub mod Turns
pub mod ByRule
pub mod Opening
pub mod Example
