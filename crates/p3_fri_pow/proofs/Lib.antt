pub mod Lists
pub mod SeedLemmas
pub mod Turns
pub mod Pushed
pub mod NoBits
pub mod Reached
pub mod Found
