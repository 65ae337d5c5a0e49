pub mod Units
pub mod Along
pub mod Near
pub mod Searched
pub mod Reach
