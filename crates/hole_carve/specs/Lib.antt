pub mod Flooding
pub mod Floods
pub mod Ways
pub mod Seeds
pub mod Kept
pub mod Marks
pub mod Boxes
pub mod Walled
