pub mod Collisions
