pub mod Constrained
