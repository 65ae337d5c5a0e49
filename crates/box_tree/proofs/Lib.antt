pub mod Lists
pub mod Boxes
pub mod Trees
