-- The value in contracts of a mesh to which points are added.
use Rattle.std.specs.Prelude.{◌≡◌, ◌≢◌, ℕ, ◌-◌, ◌^◌, ◌<◌, List, [], ◌∷◌, ◌++◌, length, Option, Contains}
use Rattle.sign_predicates.specs.Point.{Point}
use Rattle.geo_laws.specs.Delaunay.{point, numbers, all_numbers, HasDistinctPoints, IsDelaunay}
use Rattle.geo_laws.specs.declared.tetrahedra.Tet.{Tet as Row}
use Rattle.mesh_arena.specs.Mesh.{SlotValue, IsLive}
use Rattle.mesh_arena.specs.declared.slot.Corner.{Corner}
use Rattle.point_locate.specs.Place.{row_corners}
use Rattle.mesh_laws.specs.Living.{IsDelaunayMesh}

-- the points, and the slots of their mesh
pub record LivingMesh : Type 0 where
  pub points : List Point
  pub slots : List (Option SlotValue)

-- the live slots are the Delaunay list of the distinct points, with its ghosts, and this is one of them
pub record IsLiving (ps : List Point) (slots : List (Option SlotValue)) (last : ℕ) : Type 0 where
  pub mesh : IsDelaunayMesh slots ps (all_numbers ps)
  pub distinct : HasDistinctPoints ps
  pub few : length ps < 2 ^ 32 - 1
  pub live : IsLive slots last

-- the mesh of all points but the last one, which has this number and is none of the others
pub record IsLonger (slots : List (Option SlotValue)) (ps : List Point) (number : ℕ) : Type 0 where
  pub others : List Point
  pub last : Point
  pub is : ps ≡ others ++ last ∷ []
  pub number_is : number ≡ length others
  pub mesh : IsDelaunayMesh slots others (all_numbers others)
  pub apart : (i : ℕ) → i < length others → point others i ≢ last

-- the two points differ, and are corners of one tetrahedron of the Delaunay list
pub record IsDelaunaySide (ps : List Point) (a b : ℕ) : Type 0 where
  pub differ : a ≢ b
  pub row : Row
  pub is_row : IsDelaunay ps row
  pub first : Contains (numbers row) a
  pub second : Contains (numbers row) b

-- these are the corners of a tetrahedron of points, and the two points are among them
pub record HasBoth (cs : List Corner) (a b : ℕ) : Type 0 where
  pub four : Row
  pub is : cs ≡ row_corners four
  pub first : Contains (numbers four) a
  pub second : Contains (numbers four) b
