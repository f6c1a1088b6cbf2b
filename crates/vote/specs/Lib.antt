pub mod Voting
pub mod Voters
