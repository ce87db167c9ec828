pub mod Heights
pub mod Preprocessing
pub mod Evaluations
pub mod Scheme
