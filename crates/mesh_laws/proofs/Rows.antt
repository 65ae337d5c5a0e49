-- Rows with the same corners.
pub use Rattle.mesh_laws.proofs.LowestRows.{same_row}
