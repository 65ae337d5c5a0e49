pub mod Arrays
pub mod Complexes
pub mod Doubles
pub mod Meshes
