-- What stands behind a face of a slot that is a row, and the corners of a ghost.
use Rattle.std.proofs.Common.{◌≡◌, ◌≢◌, ◌⊎◌, inl, inr, ℕ, ◌<◌, List, Option, Some}
use Rattle.sign_predicates.specs.Point.{Point}
use Rattle.geo_laws.specs.Height.{lifted}
use Rattle.geo_laws.specs.declared.tetrahedra.Tet.{Tet as Row}
use Rattle.geo_laws.specs.OrientedFace.{reversed}
use Rattle.geo_laws.proofs.Places.{number}
use Rattle.insert_laws.specs.Insertion.{IsFaceOf}
use Rattle.mesh_arena.specs.Mesh.{SlotValue, corner, link_behind, IsArenaMesh}
use Rattle.mesh_arena.specs.declared.arena.SlotFace.{SlotFace}
use Rattle.mesh_arena.specs.declared.slot.Corner.TheVariants.{Point as Numbered, Ghost}
use Rattle.mesh_laws.proofs.LowestAcross as lowest
use Rattle.mesh_laws.specs.Living.{face_off, HasSameFaceCorners, IsRowSlot, IsGhostSlot, IsDelaunayMesh}
use Rattle.mesh_laws.proofs.Faces.{place_of}
use Rattle.mesh_laws.proofs.Bridge.{row_of, row_from, ghost_from, mesh_of}
pub use Rattle.mesh_laws.proofs.LowestAcross.{row_corner, some_side}

module _ (slots : List (Option SlotValue)) (ps : List Point) (ms : List ℕ) where
  pub ghost_corner : (s k : ℕ) (t : Row) → IsGhostSlot slots ps ms s t k → (m : ℕ) → m < 4 → m ≢ k → corner slots s m ≡ Numbered (number t (place_of m))
  ghost_corner s k t slot = lowest.finite_at slots s k t slot.within slot.is

  pub infinite_corner : (s k : ℕ) (t : Row) → IsGhostSlot slots ps ms s t k → corner slots s k ≡ Ghost
  infinite_corner s k t slot = lowest.infinite_at slots s k t slot.within slot.is

  pub ghost_shows : (s k : ℕ) (t : Row) → IsGhostSlot slots ps ms s t k → lowest.Shows slots s k (face_off t k)
  ghost_shows s k t slot = lowest.shows_hull slots s k t slot.within slot.is

  -- behind a face of a row stands the row on its other side, or the ghost of a hull face with those corners
  pub behind_row : (mesh : IsArenaMesh slots) (now : IsDelaunayMesh slots ps ms) (s k : ℕ) (t : Row) (b : SlotFace) (slot : IsRowSlot slots ps ms s t) → link_behind slots s k ≡ Some b
      → ((r : Row) × (other : IsRowSlot slots ps ms b.slot r) × IsFaceOf ps (reversed (face_off t k)) other.row) ⊎ ((r : Row) × IsGhostSlot slots ps ms b.slot r b.face × HasSameFaceCorners (face_off t k) (face_off r b.face))
  behind_row mesh now s k t b slot is = elim (lowest.behind_row (lifted ps) slots ps ms mesh (mesh_of slots ps ms now) s k t b (row_of slots ps ms now.within s t slot) is) [
    | inl r ↦ inl (r.0, row_from slots ps ms now.within b.slot r.0 r.1, r.2)
    | inr r ↦ inr (r.0, ghost_from slots ps ms now.within b.slot r.0 b.face r.1, r.2)
  ]
