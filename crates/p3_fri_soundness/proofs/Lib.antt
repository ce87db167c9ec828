pub mod BoundRows
pub mod BoundTerms
pub mod InputsMet
pub mod Sound
pub mod Drawn
pub mod TreeRows
pub mod Settings
