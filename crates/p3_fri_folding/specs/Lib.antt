pub use Rattle.algebra.specs.Folds
pub mod Phases
pub mod Rows
pub mod Schedule
pub mod Strategy
