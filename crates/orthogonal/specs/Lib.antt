pub mod Judgements
pub mod Pass
