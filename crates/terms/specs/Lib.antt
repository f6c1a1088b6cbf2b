pub mod Terms
pub mod BandRows
