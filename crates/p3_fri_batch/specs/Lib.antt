pub mod Words
pub mod Heights
pub mod Claimed
pub mod Rounds
