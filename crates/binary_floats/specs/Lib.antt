pub mod Floats
pub mod Nearest
pub mod Shortest
pub mod Place
pub mod Laws
pub mod Doubles
