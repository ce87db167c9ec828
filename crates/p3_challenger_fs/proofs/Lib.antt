pub mod Turns
pub mod Streams
