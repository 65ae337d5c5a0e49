-- An arena whose live slots are the lowest list of some points, with its ghosts. The points are those of a list whose numbers are among
-- `ms`.
use Rattle.std.specs.Prelude.{◌≡◌, ◌↔◌, ◌⊎◌, ℕ, zero, suc, ◌<◌, List, Option, Some, IsSome, slice_set, ℤ}
use Rattle.sign_predicates.specs.Point.{Point}
use Rattle.sign_predicates.specs.Orientation.{IsPositive}
use Rattle.geo_laws.specs.Delaunay.{corners, AreNumbersOf}
use Rattle.geo_laws.specs.Height.{IsLowestAmong}
use Rattle.geo_laws.specs.declared.tetrahedra.Tet.{Tet as Row}
use Rattle.geo_laws.specs.OrientedFace.{Face}
use Rattle.insert_laws.specs.LowestInsertion.{HasSameCorners, IsLowestHullFace}
use Rattle.mesh_arena.specs.Mesh.{SlotValue, corners_at, IsLive, link_behind}
use Rattle.mesh_arena.specs.declared.slot.Corner.TheVariants.{Ghost}
use Rattle.point_locate.specs.Place.{row_corners}

-- the face opposite the corner in this place, from 0: where the four are positive, that corner is on its positive side
abbrev pub face_off : Row → ℕ → Face
face_off t zero = record { a = t.b; b = t.d; c = t.c }
face_off t (suc zero) = record { a = t.a; b = t.c; c = t.d }
face_off t (suc (suc zero)) = record { a = t.a; b = t.d; c = t.b }
face_off t k = record { a = t.a; b = t.b; c = t.c }

-- the number is that of a corner of the face
abbrev pub IsFaceCorner : Face → ℕ → Type 0
IsFaceCorner f i = (i ≡ f.a) ⊎ ((i ≡ f.b) ⊎ (i ≡ f.c))

-- the two faces have the same corners
abbrev pub HasSameFaceCorners : Face → Face → Type 0
HasSameFaceCorners f g = (i : ℕ) → IsFaceCorner f i ↔ IsFaceCorner g i

-- the slot has the corners of a lowest tetrahedron, in the places of the four t: an even arrangement, since both are positive
pub record IsLowestRowSlot (lifts : ℕ → ℤ) (slots : List (Option SlotValue)) (ps : List Point) (ms : List ℕ) (s : ℕ)
    (t : Row) : Type 0 where
  pub is : corners_at slots s ≡ Some (row_corners t)
  pub row : Row
  pub is_row : IsLowestAmong ps ms lifts row
  pub same_corners : HasSameCorners t row
  pub is_positive : IsPositive (corners ps t)

-- the slot has the corners of a hull face, and the point at infinity in the place k of the four t, in an order that is positive where a
-- point strictly beyond the face stands there
pub record IsLowestGhostSlot (lifts : ℕ → ℤ) (slots : List (Option SlotValue)) (ps : List Point) (ms : List ℕ) (s : ℕ) (t : Row)
    (k : ℕ) : Type 0 where
  pub within : k < 4
  pub is : corners_at slots s ≡ Some (slice_set (row_corners t) k Ghost)
  pub is_hull : IsLowestHullFace lifts ps ms (face_off t k)

-- There is one slot for each tetrahedron and one for each hull face, no other live slot, and each face of a live slot has a neighbor
pub record IsLowestMesh (lifts : ℕ → ℤ) (slots : List (Option SlotValue)) (ps : List Point) (ms : List ℕ) : Type 0 where
  pub within : AreNumbersOf ps ms
  pub each : (s : ℕ) → IsLive slots s → ((t : Row) × IsLowestRowSlot lifts slots ps ms s t)
      ⊎ ((t : Row) × (k : ℕ) × IsLowestGhostSlot lifts slots ps ms s t k)
  pub rows : (r : Row) → IsLowestAmong ps ms lifts r → (s : ℕ) × (t : Row) × (slot : IsLowestRowSlot lifts slots ps ms s t) × (slot.row ≡ r)
  pub one_row : (s u : ℕ) (t r : Row) → IsLowestRowSlot lifts slots ps ms s t → IsLowestRowSlot lifts slots ps ms u r → HasSameCorners t r
      → s ≡ u
  pub ghosts : (f : Face) → IsLowestHullFace lifts ps ms f → (s : ℕ) × (t : Row) × (k : ℕ) × IsLowestGhostSlot lifts slots ps ms s t k
      × HasSameFaceCorners (face_off t k) f
  pub one_ghost : (s u : ℕ) (t r : Row) (k j : ℕ) → IsLowestGhostSlot lifts slots ps ms s t k → IsLowestGhostSlot lifts slots ps ms u r j
      → HasSameFaceCorners (face_off t k) (face_off r j) → s ≡ u
  pub linked : (s k : ℕ) → IsLive slots s → k < 4 → IsSome (link_behind slots s k)
