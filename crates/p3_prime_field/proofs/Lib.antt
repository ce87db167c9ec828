pub mod Modular
pub mod ProthTest
pub mod ResidueLaws
pub mod ResidueRoots
pub mod ResidueSteps
