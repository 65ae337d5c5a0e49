pub mod Regular
pub mod WeightedLaws
pub mod Sites
pub mod Weights
pub mod Hidden
pub mod Meshing
pub mod Laws
