pub mod PlainRules
pub mod Polynomials
pub mod Stated
