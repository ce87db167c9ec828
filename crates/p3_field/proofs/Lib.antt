pub use Rattle.p3_field_core.proofs.IndexPowers
pub use Rattle.p3_field_core.proofs.IndexReversal
pub use Rattle.p3_field_core.proofs.IndexSteps
pub use Rattle.p3_field_core.proofs.IndexSwaps
