pub mod AlwaysOne
pub mod AlwaysOneLaws
