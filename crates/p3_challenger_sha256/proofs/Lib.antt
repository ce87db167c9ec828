pub mod Grinds
