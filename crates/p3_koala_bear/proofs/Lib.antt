pub mod Factors
pub mod QuarticSteps
