pub mod Sorted
pub mod Windows
