pub mod Sampled
pub mod Switches
