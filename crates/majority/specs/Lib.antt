pub mod Rule
pub mod SecondCircuit
pub mod AsSent
pub mod Plain
pub mod Edges
pub mod Erased
pub mod Figures
