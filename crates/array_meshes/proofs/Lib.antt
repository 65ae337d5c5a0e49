pub mod Whole
pub mod Drawn
pub mod Listed
