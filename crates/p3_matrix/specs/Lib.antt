pub mod Rows
pub mod Matrix
pub mod Words
pub mod Columns
pub use Rattle.p3_field_core.specs.Index
