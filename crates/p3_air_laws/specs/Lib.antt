pub mod Columns
pub mod Composition
pub mod Laws
