pub mod Bound
pub mod BoundInputs
pub mod Soundness
pub mod Trees
pub mod Laws
