pub mod QuadraticSteps
