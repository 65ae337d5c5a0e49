pub mod Faults
pub mod Protection
pub mod Covered
pub mod Meshing
pub mod Steps
pub mod OneAnswer
