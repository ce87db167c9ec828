pub mod Copies
pub mod QuarticLists
pub mod Quadratic
pub use Rattle.algebra.specs.Field
pub use Rattle.algebra.specs.Polynomial
pub use Rattle.algebra.specs.PolynomialProduct
pub use Rattle.algebra.specs.QuarticExtension
pub use Rattle.p3_field_core.specs.Basis
