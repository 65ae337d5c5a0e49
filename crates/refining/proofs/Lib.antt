pub mod Rounds
mod Shown
pub mod Divisors
pub mod NewPoints
pub mod Meshables
pub mod PointsBehind
