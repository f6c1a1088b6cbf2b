pub mod Streams
pub mod Feedback
-- the third term
pub mod Majority
pub mod Linear
pub mod Theorem
-- nothing erased
pub mod Plain
pub mod Edges
pub mod Erased
pub mod WrongTouched
pub mod LargerEdges
-- the second circuit
pub mod SecondCircuit
-- the link figure
pub mod Figures
