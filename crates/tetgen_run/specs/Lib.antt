pub mod Ends
pub mod Run
pub mod Steps
pub mod Stops
