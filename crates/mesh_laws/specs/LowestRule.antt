-- Which slots of an arena a new point takes (incremental insertion: Bowyer 1981, Watson 1981), where each point i is lifted by `lifts i`.
use Rattle.std.specs.Prelude.{◌≡◌, ◌⊎◌, ℕ, ◌<◌, ℤ, pos, ◌<ℤ◌, List, Option, Some}
use Rattle.std.specs.List.{slice_index_or}
use Rattle.sign_predicates.specs.Point.{Point}
use Rattle.sign_predicates.specs.Orientation.{volume}
use Rattle.geo_laws.specs.Delaunay.{point}
use Rattle.geo_laws.specs.declared.tetrahedra.Tet.{Tet as Row}
use Rattle.insert_laws.specs.LowestInsertion.{HasAbove}
use Rattle.mesh_arena.specs.Mesh.{SlotValue, corners_at, corner_list, link_behind}
use Rattle.mesh_arena.specs.declared.arena.SlotFace.{SlotFace}
use Rattle.mesh_arena.specs.declared.slot.Corner.{Corner}
use Rattle.mesh_arena.specs.declared.slot.Corner.TheVariants.{Ghost}
use Rattle.mesh_arena.specs.declared.slot.SlotCorners.{SlotCorners}
use Rattle.point_locate.specs.Place.{IsAt, row_corners, placed}

-- these are the corners of a tetrahedron that doesn't have the point p above
pub record IsLowestTakenRow (lifts : ℕ → ℤ) (ps : List Point) (p : ℕ) (cs : List Corner) : Type 0 where
  pub row : Row
  pub is : cs ≡ row_corners row
  pub holds : ¬ HasAbove lifts ps row p

-- behind the face stands such a tetrahedron
pub record IsLowestInnerTaken (lifts : ℕ → ℤ) (slots : List (Option SlotValue)) (ps : List Point) (p s face : ℕ) : Type 0 where
  pub inner : SlotFace
  pub is : link_behind slots s face ≡ Some inner
  pub takes : IsAt slots (IsLowestTakenRow lifts ps p) inner.slot

-- p is strictly beyond the hull face of a ghost with the point at infinity in this place, or on its plane where the tetrahedron on the
-- inner side doesn't have it above
pub record IsLowestSeen (lifts : ℕ → ℤ) (slots : List (Option SlotValue)) (ps : List Point) (p s place : ℕ) : Type 0 where
  pub ghost : SlotCorners
  pub is : corners_at slots s ≡ Some (corner_list ghost)
  pub sees : (pos 0 <ℤ volume (placed ps (point ps p) ghost))
      ⊎ ((volume (placed ps (point ps p) ghost) ≡ pos 0) × IsLowestInnerTaken lifts slots ps p s place)

-- the slot is a ghost that p sees
pub record IsLowestSeenGhost (lifts : ℕ → ℤ) (slots : List (Option SlotValue)) (ps : List Point) (p s : ℕ) : Type 0 where
  pub place : ℕ
  pub within : place < 4
  pub infinite : IsAt slots (λ cs. slice_index_or cs place Ghost ≡ Ghost) s
  pub seen : IsLowestSeen lifts slots ps p s place

-- the slot is a tetrahedron that doesn't have p above, or a ghost that p sees
abbrev pub IsLowestTaken : (ℕ → ℤ) → List (Option SlotValue) → List Point → ℕ → ℕ → Type 0
IsLowestTaken lifts slots ps p s = IsAt slots (IsLowestTakenRow lifts ps p) s ⊎ IsLowestSeenGhost lifts slots ps p s
