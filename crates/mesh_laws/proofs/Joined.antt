-- The place of a face in a four.
pub use Rattle.mesh_laws.proofs.LowestJoined.{place_other, place_of_face}
