pub mod SelfOrthogonal
pub mod Edges
pub mod Standard
