pub mod Votes
pub mod Weighted
pub mod Above
pub mod Rows
pub mod ListedWeights
pub mod Marking
pub mod Answering
