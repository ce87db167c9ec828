pub mod Asked
pub mod Stark
