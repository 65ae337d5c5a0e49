-- Where a point lies in a mesh: in the closed tetrahedron of a slot, or strictly beyond the hull face of a ghost. The
-- four corners of a ghost are in an order that is positive where a point strictly beyond its hull face takes the place
-- of the point at infinity.
use Rattle.std.specs.Prelude.{◌≡◌, ℕ, ◌<◌, List, [], ◌∷◌, length, Option, Some, ⊤}
use Rattle.std.specs.List.{slice_index_or}
use Rattle.sign_predicates.specs.Point.{Point, as_rational}
use Rattle.sign_predicates.specs.Orientation.{IsPositive, InClosed}
use Rattle.sign_predicates.specs.declared.tetrahedron.Corners.{Corners}
use Rattle.geo_laws.specs.Delaunay.{point, corners}
use Rattle.geo_laws.specs.declared.tetrahedra.Tet.{Tet as Row}
use Rattle.mesh_arena.specs.Mesh.{SlotValue, corners_at, corner_list}
use Rattle.mesh_arena.specs.declared.slot.Corner.{Corner}
use Rattle.mesh_arena.specs.declared.slot.Corner.TheVariants.{Point as Numbered, Ghost}
use Rattle.mesh_arena.specs.declared.slot.SlotCorners.{SlotCorners}
use Rattle.point_locate.specs.declared.walk.Place.{Place}
use Rattle.point_locate.specs.declared.walk.Place.TheVariants.{Inside, Beyond}
use Rattle.point_locate.specs.declared.look.Look.{Look}
use Rattle.point_locate.specs.declared.look.Look.TheVariants.{Inside as LooksInside, Beyond as LooksBeyond, Out}
use Rattle.point_locate.specs.declared.look.Shape.{Shape}
use Rattle.point_locate.specs.declared.look.Shape.TheVariants.{Row as RowShape, Ghost as GhostShape}

-- the corner is a point of the list, or the point at infinity
abbrev pub IsCornerOn : List Point → Corner → Type 0
IsCornerOn ps (Numbered i) = i < length ps
IsCornerOn ps Ghost = ⊤

-- all of the corners are points of the list, or the point at infinity
abbrev pub AreOn : List Point → List Corner → Type 0
AreOn ps cs = (k : ℕ) → k < 4 → IsCornerOn ps (slice_index_or cs k Ghost)

-- the corners of each live slot are points of the list, or the point at infinity
abbrev pub AreCornersOn : List (Option SlotValue) → List Point → Type 0
AreCornersOn slots ps = (s : ℕ) (cs : List Corner) → corners_at slots s ≡ Some cs → AreOn ps cs

-- the corners of a tetrahedron of points, by their numbers
abbrev pub row_corners : Row → List Corner
row_corners t = Numbered t.a ∷ Numbered t.b ∷ Numbered t.c ∷ Numbered t.d ∷ []

-- the point of a corner, or p for the point at infinity
abbrev pub corner_point : List Point → Point → Corner → Point
corner_point ps p (Numbered i) = point ps i
corner_point ps p Ghost = p

-- the points of a slot's corners, with p in place of the point at infinity
abbrev pub placed : List Point → Point → SlotCorners → Corners
placed ps p t = record { a = corner_point ps p t.a; b = corner_point ps p t.b; c = corner_point ps p t.c; d = corner_point ps p t.d }

-- the closed tetrahedron with these corners holds p
pub record IsInside (ps : List Point) (p : Point) (cs : List Corner) : Type 0 where
  pub row : Row
  pub is : cs ≡ row_corners row
  pub holds : InClosed (corners ps row) (as_rational p)

-- these are the corners of a ghost, and p is strictly beyond its hull face
pub record IsBeyond (ps : List Point) (p : Point) (cs : List Corner) : Type 0 where
  pub ghost : SlotCorners
  pub is : cs ≡ corner_list ghost
  pub place : ℕ
  pub within : place < 4
  pub infinite : slice_index_or cs place Ghost ≡ Ghost
  pub sees : IsPositive (placed ps p ghost)

-- the slot is live, and P holds of its corners
pub record IsAt (slots : List (Option SlotValue)) (P : List Corner → Type 0) (s : ℕ) : Type 0 where
  pub corners : List Corner
  pub is : corners_at slots s ≡ Some corners
  pub here : P corners

-- the point is in this place of the mesh
abbrev pub IsPlace : List (Option SlotValue) → List Point → Point → Place → Type 0
IsPlace slots ps p (Inside s) = IsAt slots (IsInside ps p) s.index
IsPlace slots ps p (Beyond s) = IsAt slots (IsBeyond ps p) s.index

-- The point is somewhere in the mesh. In a Delaunay mesh with its ghosts each point is
abbrev pub IsSomePlace : List (Option SlotValue) → List Point → Point → Type 0
IsSomePlace slots ps p = (place : Place) × IsPlace slots ps p place

-- these are the corners of a tetrahedron of points, or have the point at infinity in a place
abbrev pub HasShape : List Corner → Shape → Type 0
HasShape cs (RowShape row) = cs ≡ row_corners row
HasShape cs (GhostShape place) = (place < 4) × (slice_index_or cs place Ghost ≡ Ghost)

-- where p lies to the slot with these corners
abbrev pub Looks : List Point → Point → List Corner → Look → Type 0
Looks ps p cs LooksInside = IsInside ps p cs
Looks ps p cs LooksBeyond = IsBeyond ps p cs
Looks ps p cs (Out face) = (face < 4) × (IsInside ps p cs → ⊥) × (IsBeyond ps p cs → ⊥)
