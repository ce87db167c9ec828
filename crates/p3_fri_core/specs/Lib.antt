pub use Rattle.algebra.specs.Folds
pub use Rattle.p3_fri_folding.specs.Schedule
pub use Rattle.p3_fri_folding.specs.Strategy
