pub mod Places
pub mod Shortest
pub mod Halves
