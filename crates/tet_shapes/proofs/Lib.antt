pub mod Numbers
pub mod Center
pub mod Counts
pub mod Slim
pub mod Volumes
pub mod Thresholds
pub mod Nearer
