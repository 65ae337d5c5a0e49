pub mod Rounding
pub mod Units
pub mod Choice
pub mod Midpoint
pub mod Origins
