pub mod CopyLaws
pub mod Pieces
pub mod QuarticCoefficients
pub mod QuadraticField
pub mod QuadraticProduct
