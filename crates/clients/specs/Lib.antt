pub mod Cards
pub mod Closed
pub mod Forms
pub mod Listed
pub mod Touched
