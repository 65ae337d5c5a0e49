-- The steps of a walk that searches for an edge of a Delaunay mesh.
use Rattle.std.specs.Prelude.{◌≡◌, ◌↔◌, ℕ, ◌<◌, List, IsTrue, Contains, ⊤}
use Rattle.sign_predicates.specs.Point.{Point}
use Rattle.geo_laws.specs.Delaunay.{numbers}
use Rattle.geo_laws.specs.declared.tetrahedra.Tet.{Tet as Row}
use Rattle.insert_laws.specs.Cone.{IsInCone}
use Rattle.mesh_arena.specs.declared.slot.Corner.{Corner}
use Rattle.point_locate.specs.Place.{row_corners}
use Rattle.cavity_insert.specs.Living.{HasBoth}
use Rattle.cavity_insert.specs.declared.sides.WalkStep.{WalkStep}
use Rattle.cavity_insert.specs.declared.sides.WalkStep.TheVariants.{Answer, Through, Lost}

-- these are the corners of a tetrahedron that has the corner a, and b lies in its closed cone from a
pub record HasInCone (ps : List Point) (cs : List Corner) (a b : ℕ) : Type 0 where
  pub row : Row
  pub is : cs ≡ row_corners row
  pub first : Contains (numbers row) a
  pub holds : IsInCone ps row a b

-- an answer comes from a tetrahedron with b in its cone from a, and says whether b is a corner too
abbrev pub TellsCone : List Point → List Corner → ℕ → ℕ → WalkStep → Type 0
TellsCone ps cs a b (Answer is) = HasInCone ps cs a b × (IsTrue is ↔ HasBoth cs a b)
TellsCone ps cs a b (Through face) = face < 4
TellsCone ps cs a b Lost = ⊤
