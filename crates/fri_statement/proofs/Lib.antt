pub mod Pushes
pub mod Statements
pub mod HidingStreams
