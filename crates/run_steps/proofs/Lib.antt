pub mod Asked
pub mod Determined
mod Given
pub mod Inputs
pub mod Meshables
pub mod Named
pub mod Once
pub mod Pieces
pub mod Refusals
pub mod Steps
pub mod Unbound
pub mod Whole
pub mod Wider
