pub mod Bounds
pub mod Tree
pub mod Bodies
