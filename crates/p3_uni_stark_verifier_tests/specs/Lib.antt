pub mod Believing
