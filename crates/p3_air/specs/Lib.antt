pub mod Borrowed
pub mod Built
pub mod Degrees
pub mod Nodes
pub mod Satisfied
pub mod Shapes
pub mod WellFormed
