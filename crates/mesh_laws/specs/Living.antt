-- An arena whose live slots are the Delaunay list of some points, with its ghosts. The points are those of a list whose numbers are among
-- `ms`.
use Rattle.std.specs.Prelude.{◌≡◌, ◌⊎◌, ℕ, ◌<◌, List, Option, Some, IsSome, slice_set}
use Rattle.sign_predicates.specs.Point.{Point}
use Rattle.sign_predicates.specs.Orientation.{IsPositive}
use Rattle.geo_laws.specs.Delaunay.{corners, AreNumbersOf, IsDelaunayAmong}
use Rattle.geo_laws.specs.declared.tetrahedra.Tet.{Tet as Row}
use Rattle.geo_laws.specs.OrientedFace.{Face}
use Rattle.insert_laws.specs.Insertion.{HasSameCorners, IsHullFace}
use Rattle.mesh_arena.specs.Mesh.{SlotValue, corners_at, IsLive, link_behind}
use Rattle.mesh_arena.specs.declared.slot.Corner.TheVariants.{Ghost}
use Rattle.point_locate.specs.Place.{row_corners}
pub use Rattle.mesh_laws.specs.LowestLiving.{face_off, IsFaceCorner, HasSameFaceCorners}

-- the slot has the corners of a Delaunay tetrahedron, in the places of the four t: an even arrangement, since both are positive
pub record IsRowSlot (slots : List (Option SlotValue)) (ps : List Point) (ms : List ℕ) (s : ℕ) (t : Row) : Type 0 where
  pub is : corners_at slots s ≡ Some (row_corners t)
  pub row : Row
  pub is_row : IsDelaunayAmong ps ms row
  pub same_corners : HasSameCorners t row
  pub is_positive : IsPositive (corners ps t)

-- the slot has the corners of a hull face, and the point at infinity in the place k of the four t, in an order that is positive where a
-- point strictly beyond the face stands there
pub record IsGhostSlot (slots : List (Option SlotValue)) (ps : List Point) (ms : List ℕ) (s : ℕ) (t : Row) (k : ℕ) : Type 0 where
  pub within : k < 4
  pub is : corners_at slots s ≡ Some (slice_set (row_corners t) k Ghost)
  pub is_hull : IsHullFace ps ms (face_off t k)

-- There is one slot for each tetrahedron and one for each hull face, no other live slot, and each face of a live slot has a neighbor
pub record IsDelaunayMesh (slots : List (Option SlotValue)) (ps : List Point) (ms : List ℕ) : Type 0 where
  pub within : AreNumbersOf ps ms
  pub each : (s : ℕ) → IsLive slots s → ((t : Row) × IsRowSlot slots ps ms s t) ⊎ ((t : Row) × (k : ℕ) × IsGhostSlot slots ps ms s t k)
  pub rows : (r : Row) → IsDelaunayAmong ps ms r → (s : ℕ) × (t : Row) × (slot : IsRowSlot slots ps ms s t) × (slot.row ≡ r)
  pub one_row : (s u : ℕ) (t r : Row) → IsRowSlot slots ps ms s t → IsRowSlot slots ps ms u r → HasSameCorners t r → s ≡ u
  pub ghosts : (f : Face) → IsHullFace ps ms f → (s : ℕ) × (t : Row) × (k : ℕ) × IsGhostSlot slots ps ms s t k
      × HasSameFaceCorners (face_off t k) f
  pub one_ghost : (s u : ℕ) (t r : Row) (k j : ℕ) → IsGhostSlot slots ps ms s t k → IsGhostSlot slots ps ms u r j
      → HasSameFaceCorners (face_off t k) (face_off r j) → s ≡ u
  pub linked : (s k : ℕ) → IsLive slots s → k < 4 → IsSome (link_behind slots s k)
