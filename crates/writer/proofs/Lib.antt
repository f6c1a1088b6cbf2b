-- the code
pub mod Laying
pub mod Answers
-- the claims
pub mod Forms
pub mod Carrying
pub mod Computed
