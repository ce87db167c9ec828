pub mod Pattern
pub mod Description
pub mod Separator
pub mod Script
pub mod Driver
pub mod Turns
pub mod StreamLaws
