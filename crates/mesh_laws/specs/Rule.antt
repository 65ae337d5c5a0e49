-- Which slots of an arena a new point takes (incremental insertion: Bowyer 1981, Watson 1981).
use Rattle.std.specs.Prelude.{◌≡◌, ◌⊎◌, ℕ, ◌<◌, pos, ◌<ℤ◌, List, Option, Some, IsTrue}
use Rattle.std.specs.List.{slice_index_or}
use Rattle.sign_predicates.specs.Point.{Point}
use Rattle.sign_predicates.specs.Orientation.{volume}
use Rattle.sign_predicates.specs.Sphere.{is_outside}
use Rattle.geo_laws.specs.Delaunay.{corners, as_numbers}
use Rattle.geo_laws.specs.declared.tetrahedra.Tet.{Tet as Row}
use Rattle.mesh_arena.specs.Mesh.{SlotValue, corners_at, corner_list, link_behind}
use Rattle.mesh_arena.specs.declared.arena.SlotFace.{SlotFace}
use Rattle.mesh_arena.specs.declared.slot.Corner.{Corner}
use Rattle.mesh_arena.specs.declared.slot.Corner.TheVariants.{Ghost}
use Rattle.mesh_arena.specs.declared.slot.SlotCorners.{SlotCorners}
use Rattle.point_locate.specs.Place.{IsAt, row_corners, placed}

-- these are the corners of a tetrahedron that doesn't have p, with this number, outside
pub record IsTakenRow (ps : List Point) (p : Point) (number : ℕ) (cs : List Corner) : Type 0 where
  pub row : Row
  pub is : cs ≡ row_corners row
  pub holds : ¬ IsTrue (is_outside (corners ps row) (as_numbers row) p number)

-- behind the face stands such a tetrahedron
pub record IsInnerTaken (slots : List (Option SlotValue)) (ps : List Point) (p : Point) (number s face : ℕ) : Type 0 where
  pub inner : SlotFace
  pub is : link_behind slots s face ≡ Some inner
  pub takes : IsAt slots (IsTakenRow ps p number) inner.slot

-- p is strictly beyond the hull face of a ghost with the point at infinity in this place, or on its plane where the tetrahedron on the
-- inner side doesn't have it outside
pub record IsSeen (slots : List (Option SlotValue)) (ps : List Point) (p : Point) (number s place : ℕ) : Type 0 where
  pub ghost : SlotCorners
  pub is : corners_at slots s ≡ Some (corner_list ghost)
  pub sees : (pos 0 <ℤ volume (placed ps p ghost)) ⊎ ((volume (placed ps p ghost) ≡ pos 0) × IsInnerTaken slots ps p number s place)

-- the slot is a ghost that p sees
pub record IsSeenGhost (slots : List (Option SlotValue)) (ps : List Point) (p : Point) (number s : ℕ) : Type 0 where
  pub place : ℕ
  pub within : place < 4
  pub infinite : IsAt slots (λ cs. slice_index_or cs place Ghost ≡ Ghost) s
  pub seen : IsSeen slots ps p number s place

-- the slot is a tetrahedron that doesn't have p outside, or a ghost that p sees
abbrev pub IsTaken : List (Option SlotValue) → List Point → Point → ℕ → ℕ → Type 0
IsTaken slots ps p number s = IsAt slots (IsTakenRow ps p number) s ⊎ IsSeenGhost slots ps p number s
