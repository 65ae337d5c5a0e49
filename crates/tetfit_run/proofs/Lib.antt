mod Measured
pub mod CheckedRuns
pub mod Complete
pub mod Fitted
pub mod Pieces
mod RefinedRuns
pub mod Models
mod Keywords
mod Appends
mod Firsts
mod OffGrid
mod Alike
mod Tries
mod PartsBefore
mod Halvings
mod Missing
mod Placements
mod RoundedFirst
mod Openings
mod FacetSides
mod SideBoxes
mod Copied
mod Ratios
mod Multiples
