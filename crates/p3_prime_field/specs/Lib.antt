pub mod Proth
pub mod Residues
pub use Rattle.algebra.specs.Field
pub use Rattle.algebra.specs.Primes
pub use Rattle.algebra.specs.TwoAdic
