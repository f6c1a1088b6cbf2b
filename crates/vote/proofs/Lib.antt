pub mod Voting
pub mod WhoVotes
