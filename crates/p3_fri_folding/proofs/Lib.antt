pub mod Fewest
pub mod Halves
pub mod Rounds
pub mod Slopes
