pub mod Boxes
pub mod Parts
pub mod Where
