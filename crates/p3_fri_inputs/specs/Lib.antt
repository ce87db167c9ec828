pub mod Claims
pub mod Points
